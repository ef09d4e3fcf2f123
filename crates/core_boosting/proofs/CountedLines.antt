-- The line that counts one output more is made.
use Rattle.std.proofs.Common.{◌≡◌, ℕ, ◌+◌, ◌<◌, None, Some, List, [], ◌∷◌, ◌++◌, map, length, ap, sym, subst, ◌∙◌, arith, Ok}
use Rattle.std.specs.List.{All}
use Rattle.std.proofs.lemmas.List.{length-map, map-append}
use Rattle.scut_base.specs.Literal.{Literal}
use Rattle.pb_lin.specs.Constraint.{opposite}
use Rattle.cutting_planes.specs.Stack.{IsValueOn}
use Rattle.proof_laws.specs.State.{StateValue, IsState}
use Rattle.proof_laws.specs.Refusal.{given_in}
use Rattle.proof_rules.specs.Recording.{Snapshot}
use Rattle.sum_outputs.specs.Adding.{IsReached}
use Rattle.sum_outputs.specs.Laws.{AreTokensOf}
use Rattle.sum_outputs.proofs.PolLines.{id_small}
use Rattle.core_boosting.specs.declared.counting.Counted.{Counted}
use Rattle.core_boosting.specs.Counting.{CountsSoFar, HasNext, counting, raised_tokens, reaching}
use Rattle.core_boosting.proofs.Countings.{counting_goes_on}
use Rattle.core_boosting.proofs.Literals.{AreRising, against_variables, rising_too, variables_too}
use Rattle.core_boosting.proofs.TokenLists.{raised_are}

module _ (a : Snapshot) (s : StateValue) (reached : IsReached a s) (lits : List Literal) (c : Counted) (output : Literal)
    (lower : ℕ) (next : HasNext a lits c output lower) where
  abbrev against : List Literal
  against = map opposite c.outputs

  abbrev more : List Literal
  more = c.outputs ++ output ∷ []

  as_long : length against ≡ length c.outputs
  as_long = length-map c.outputs opposite

  both_against : map opposite more ≡ against ++ opposite output ∷ []
  both_against = map-append opposite c.outputs (output ∷ [])

  so : CountsSoFar (given_in s None None) lits against (opposite output) c.line lower
  so = record {
    counts = next.counts s reached;
    reaches = next.reaches s reached ∙ ap (λ (n : ℕ). Some (reaching lits (opposite output) (n + 2))) (sym as_long);
    from_one = subst (λ (ms : List Literal). All (λ l. 0 < l.var) (lits ++ ms)) both_against
        (variables_too (lits ++ more) (lits ++ map opposite more) (against_variables lits more) (λ n. 0 < n) next.from_one);
    rising = subst (λ (ms : List Literal). AreRising (lits ++ ms)) both_against
        (rising_too (lits ++ more) (lits ++ map opposite more) (against_variables lits more) next.rising);
    few = next.few;
    more = let long = as_long in let left = next.more in omega arith;
  }

  pub count_value : IsValueOn (given_in s None None) [] (raised_tokens c.line (length c.outputs + 1) lower) (Ok (counting lits (map opposite more)))
  count_value =
      subst (λ (ms : List Literal). IsValueOn (given_in s None None) [] (raised_tokens c.line (length c.outputs + 1) lower) (Ok (counting lits ms))) (sym both_against)
      (subst (λ (n : ℕ). IsValueOn (given_in s None None) [] (raised_tokens c.line (n + 1) lower) (Ok (counting lits (against ++ opposite output ∷ [])))) as_long
      (counting_goes_on (given_in s None None) lits against (opposite output) c.line lower so))

  pub count_tokens : IsState s → AreTokensOf s (raised_tokens c.line (length c.outputs + 1) lower) (counting lits (map opposite more))
  count_tokens state =
      let few = next.few in
      let left = next.more in
      raised_are s c.line (length c.outputs + 1) lower (counting lits (map opposite more))
      (id_small s state c.line (counting lits against) (next.counts s reached))
      (id_small s state lower (reaching lits (opposite output) (length c.outputs + 2)) (next.reaches s reached))
      (omega arith) count_value
