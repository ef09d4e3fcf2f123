-- What is known of the output of a node of one term.
use Rattle.std.proofs.Common.{◌≡◌, ◌⊎◌, inl, inr, ℕ, ◌<◌, Bool, true, false, if◌then◌else◌, List, [], ◌∷◌, refl, ap, sym, ◌∙◌, ⊎_elim, arith}
use Rattle.std.specs.Prelude.{◌^◌}
use Rattle.std.proofs.lemmas.List.Elements.{All-nil, All-cons, All-head}
use Rattle.std.proofs.lemmas.List.Sums.{sum_by-cons}
use Rattle.scut_base.specs.Literal.{Literal}
use Rattle.scut_base.specs.Assignment.{lit_true}
use Rattle.scut_base.proofs.Lists.{Contains-head}
use Rattle.pb_lin.specs.Constraint.{IsVariable, term_value, total, value}
use Rattle.proof_laws.specs.State.{StateValue}
use Rattle.proof_rules.specs.Recording.{Snapshot}
use Rattle.sum_outputs.specs.Totals.{AreWeights}
use Rattle.sum_outputs.specs.Joining.{IsOutputAt, AreOutputsAt, IsCompleteTo}
use Rattle.sum_outputs.specs.Leaves.{leaf_output}
use Rattle.sum_outputs.proofs.Attaining.{attain_total}

module _ (t : Literal × ℕ) (weights : AreWeights (t ∷ [])) where
  weight_is : total (t ∷ []) ≡ t.1
  weight_is = let one = sum_by-cons (λ (u : Literal × ℕ). u.1) t [] in omega arith

  value_is : (x : List Bool) → value x (t ∷ []) ≡ (if lit_true x t.0 then t.1 else 0)
  value_is x = let one = sum_by-cons (term_value x) t [] in omega arith

  -- a sum of the one term is 0 or its weight
  sums_are : (x : List Bool) (b : Bool) → lit_true x t.0 ≡ b → (value x (t ∷ []) ≡ 0) ⊎ ((value x (t ∷ []) ≡ t.1) × (lit_true x t.0 ≡ true))
  sums_are x true is = inr (value_is x ∙ ap (λ (b : Bool). if b then t.1 else 0) is, is)
  sums_are x false is = inl (value_is x ∙ ap (λ (b : Bool). if b then t.1 else 0) is)

  some : 0 < t.1
  some = All-head (λ u. 0 < u.1) t [] weights.positive

  leaf_is : (a : Snapshot) (s : StateValue) → IsVariable s.vars t.0.var → IsOutputAt a s (t ∷ []) (leaf_output t)
  leaf_is a s variable =
      let w = weight_is in
      let top = attain_total (t ∷ []) weights in
      record {
        literal = record { known = inl (refl, refl); some = some; most = omega arith; variable = variable };
        attainable = (top.0, top.1 ∙ w);
        gap = λ m can from. ⊎_elim
            (λ (none : value can.0 (t ∷ []) ≡ 0). let e = can.1 in absurd (omega arith))
            (λ (all : (value can.0 (t ∷ []) ≡ t.1) × (lit_true can.0 t.0 ≡ true)). let e = can.1 in let v = all.0 in omega arith)
            (sums_are can.0 (lit_true can.0 t.0) refl);
        follows = λ x hold reach. ⊎_elim
            (λ (none : value x (t ∷ []) ≡ 0). let more = some in absurd (omega arith))
            (λ (all : (value x (t ∷ []) ≡ t.1) × (lit_true x t.0 ≡ true)). all.1)
            (sums_are x (lit_true x t.0) refl);
      }

  pub leaf_outputs : (a : Snapshot) (s : StateValue) → IsVariable s.vars t.0.var → AreOutputsAt a s (t ∷ []) (leaf_output t ∷ [])
  leaf_outputs a s variable = record {
    each = All-cons (IsOutputAt a s (t ∷ [])) (leaf_output t) [] (leaf_is a s variable) (All-nil (IsOutputAt a s (t ∷ [])));
    rising = record {
      rising = λ i j d less short. absurd (omega arith);
      small = All-cons (λ o. o.sum < 2 ^ 63) (leaf_output t) [] (let w = weight_is in let small = weights.small in omega arith) (All-nil (λ o. o.sum < 2 ^ 63));
    };
  }

  pub leaf_complete : (k : ℕ) → IsCompleteTo (t ∷ []) (leaf_output t ∷ []) k
  leaf_complete k m can more = ⊎_elim
      (λ (none : value can.0 (t ∷ []) ≡ 0). let e = can.1 in absurd (omega arith))
      (λ (all : (value can.0 (t ∷ []) ≡ t.1) × (lit_true can.0 t.0 ≡ true)). inl (leaf_output t, Contains-head (leaf_output t) [], sym all.0 ∙ can.1))
      (sums_are can.0 (lit_true can.0 t.0) refl)
