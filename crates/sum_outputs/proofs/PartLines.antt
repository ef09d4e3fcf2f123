-- The lines of outputs, and what they are worth together.
use Rattle.std.proofs.Common.{◌≡◌, ℕ, ◌+◌, ◌-◌, ◌*◌, ◌<◌, ◌≤◌, ◌==◌, Bool, true, false, not, cond, if◌then◌else◌, None, List, [], ◌∷◌, map, sum_by, refl, ap, sym, subst, ◌∙◌, ⊎_elim, arith}
use Rattle.std.proofs.lemmas.Bool.{cond-false, ne_eqb}
use Rattle.std.proofs.lemmas.List.Elements.{All-nil, All-cons}
use Rattle.std.proofs.lemmas.List.Sums.{sum_by-cons, sum_by-append}
use Rattle.scut_base.specs.Literal.{Literal}
use Rattle.scut_base.specs.Assignment.{lit_true}
use Rattle.pb_lin.specs.Constraint.{ConstraintValue, opposite, opposite_terms, size, term_value, total, value}
use Rattle.pb_lin.proofs.OppositeTerms.{value-opposite, total-opposite}
use Rattle.cutting_planes.proofs.Terms.{Terms}
use Rattle.proof_laws.specs.State.{StateValue, IsState}
use Rattle.proof_laws.specs.Steps.{reached_if, reached_only_if, term_of, missed_by}
use Rattle.proof_laws.specs.Refusal.{given_in}
use Rattle.proof_rules.specs.Recording.{Snapshot}
use Rattle.sum_outputs.specs.ClauseTokens.{named}
use Rattle.sum_outputs.specs.Outputs.{IsOfLeaf, IsDefined, AreLiteralsOf, sums}
use Rattle.sum_outputs.specs.declared.sum_output.SumOutput.{SumOutput}
use Rattle.sum_outputs.proofs.Chains.{values, degrees, sizes, LowAt, AreLines}
use Rattle.sum_outputs.proofs.TokenLists.{lowers_of}

-- ---- the two lines of a definition

-- a term that isn't nothing
term_is : (l : Literal) (k : ℕ) → 0 < k → term_of l k ≡ (l, k) ∷ []
term_is l k some = cond-false (k == 0) [] ((l, k) ∷ []) (ne_eqb k 0 (λ e. omega arith))

value_one : (x : List Bool) (l : Literal) (k : ℕ) → 0 < k → value x (term_of l k) ≡ term_value x (l, k)
value_one x l k some = ap (λ (ts : Terms). value x ts) (term_is l k some) ∙ (let cons = sum_by-cons (term_value x) (l, k) [] in omega arith)

pub total_one : (l : Literal) (k : ℕ) → 0 < k → total (term_of l k) ≡ k
total_one l k some = ap total (term_is l k some) ∙ (let cons = sum_by-cons (λ (t : Literal × ℕ). t.1) (l, k) [] in omega arith)

module _ (a : Snapshot) (s : StateValue) (terms : Terms) (o : SumOutput) (is : IsDefined a s terms o) where
  abbrev pub against : Literal × ℕ
  against = (opposite o.lit, o.sum)

  negative_is : record { var = o.lit.var; neg = true } ≡ opposite o.lit
  negative_is = sym (ap opposite is.positive)

  pub lower_value : (x : List Bool) → 0 < o.sum → value x (reached_if o.lit.var is.sum).terms ≡ value x terms + term_value x against
  lower_value x some =
      let parts = sum_by-append (term_value x) is.sum.terms (term_of (record { var = o.lit.var; neg = true }) is.sum.degree) in
      let one = value_one x (record { var = o.lit.var; neg = true }) is.sum.degree (let d = is.degree in omega arith) in
      let here : term_value x (record { var = o.lit.var; neg = true }, is.sum.degree) ≡ term_value x against =
      ap (λ (l : Literal). term_value x (l, is.sum.degree)) negative_is ∙ ap (λ (k : ℕ). term_value x (opposite o.lit, k)) is.degree in
      let same = is.same x in
      omega arith

  pub lower_total : 0 < o.sum → total (reached_if o.lit.var is.sum).terms ≡ total terms + o.sum
  lower_total some =
      let parts = sum_by-append (λ (t : Literal × ℕ). t.1) is.sum.terms (term_of (record { var = o.lit.var; neg = true }) is.sum.degree) in
      let one = total_one (record { var = o.lit.var; neg = true }) is.sum.degree (let d = is.degree in omega arith) in
      let d = is.degree in
      let whole = is.whole in
      omega arith

  -- how much of a sum is missed
  abbrev pub missing : ℕ
  missing = (total terms + 1) - o.sum

  missing_is : missed_by is.sum ≡ missing
  missing_is = let d = is.degree in let whole = is.whole in omega arith

  positive_is : record { var = o.lit.var; neg = false } ≡ o.lit
  positive_is = sym is.positive

  pub upper_value : (x : List Bool) → o.sum ≤ total terms → value x (reached_only_if o.lit.var is.sum).terms + value x terms ≡ total terms + term_value x (o.lit, missing)
  upper_value x most =
      let parts = sum_by-append (term_value x) (opposite_terms is.sum.terms) (term_of (record { var = o.lit.var; neg = false }) (missed_by is.sum)) in
      let m = missing_is in
      let one = value_one x (record { var = o.lit.var; neg = false }) (missed_by is.sum) (omega arith) in
      let here : term_value x (record { var = o.lit.var; neg = false }, missed_by is.sum) ≡ term_value x (o.lit, missing) =
      ap (λ (l : Literal). term_value x (l, missed_by is.sum)) positive_is ∙ ap (λ (k : ℕ). term_value x (o.lit, k)) missing_is in
      let both = value-opposite x is.sum.terms in
      let same = is.same x in
      let whole = is.whole in
      omega arith

  pub upper_total : o.sum ≤ total terms → total (reached_only_if o.lit.var is.sum).terms ≡ total terms + missing
  upper_total most =
      let parts = sum_by-append (λ (t : Literal × ℕ). t.1) (opposite_terms is.sum.terms) (term_of (record { var = o.lit.var; neg = false }) (missed_by is.sum)) in
      let m = missing_is in
      let one = total_one (record { var = o.lit.var; neg = false }) (missed_by is.sum) (omega arith) in
      let all = total-opposite is.sum.terms in
      let whole = is.whole in
      omega arith

-- ---- the lower lines of parts

-- each output's literal, negated, with its sum
abbrev pub againsts : List SumOutput → Terms
againsts os = map (λ o. (opposite o.lit, o.sum)) os

pub record PartLines (s : StateValue) (lists : List Terms) (parts : List SumOutput) (lowers : List ConstraintValue) (leaves : ℕ) : Type 0 where
  pub lines : AreLines (given_in s None None) (named (lowers_of parts)) lowers
  pub same : (x : List Bool) → values x lowers + leaves ≡ sum_by (value x) lists + value x (againsts parts)
  pub degrees : degrees lowers + leaves ≡ sums parts
  pub small : sizes lowers ≤ sum_by total lists + 2 * sums parts
  pub low : (x : List Bool) → sum_by (value x) lists ≡ 0 → LowAt x lowers
  pub most : sums parts ≤ sum_by total lists

module _ (a : Snapshot) (s : StateValue) (state : IsState s) where
  leaf_more : (ts : Terms) (lists : List Terms) (o : SumOutput) (parts : List SumOutput) (lowers : List ConstraintValue) (leaves : ℕ) → IsOfLeaf ts o → o.sum ≤ total ts → PartLines s lists parts lowers leaves → PartLines s (ts ∷ lists) (o ∷ parts) lowers (o.sum + leaves)
  leaf_more ts lists o parts lowers leaves is most rest =
      let totals = sum_by-cons total ts lists in
      let all_sums = sum_by-cons (λ (q : SumOutput). q.sum) o parts in
      record {
        lines = subst (λ (ids : List ℕ). AreLines (given_in s None None) ids lowers) (sym (ap (λ (k : ℕ). named (k ∷ lowers_of parts)) is.1)) rest.lines;
        same = λ x.
            let cons = sum_by-cons (value x) ts lists in
            let against = sum_by-cons (term_value x) (opposite o.lit, o.sum) (againsts parts) in
            let both = value-opposite x ((o.lit, o.sum) ∷ []) in
            let one = sum_by-cons (term_value x) (opposite o.lit, o.sum) [] in
            let sum_one = sum_by-cons (λ (t : Literal × ℕ). t.1) (o.lit, o.sum) [] in
            let value_is : value x ts ≡ value x ((o.lit, o.sum) ∷ []) = ap (λ (us : Terms). value x us) is.0 in
            let others = rest.same x in
            omega arith;
        degrees = let others = rest.degrees in omega arith;
        small = let others = rest.small in omega arith;
        low = λ x none. let cons = sum_by-cons (value x) ts lists in rest.low x (omega arith);
        most = let others = rest.most in omega arith;
      }

  defined_more : (ts : Terms) (lists : List Terms) (o : SumOutput) (parts : List SumOutput) (lowers : List ConstraintValue) (leaves : ℕ) (is : IsDefined a s ts o) → 0 < o.sum → o.sum ≤ total ts → PartLines s lists parts lowers leaves → PartLines s (ts ∷ lists) (o ∷ parts) (reached_if o.lit.var is.sum ∷ lowers) leaves
  defined_more ts lists o parts lowers leaves is some most rest =
      let line = reached_if o.lit.var is.sum in
      let totals = sum_by-cons total ts lists in
      let all_sums = sum_by-cons (λ (q : SumOutput). q.sum) o parts in
      let name : named (o.lower ∷ lowers_of parts) ≡ o.lower ∷ named (lowers_of parts) = ap (λ (b : Bool). cond (not b) (o.lower ∷ named (lowers_of parts)) (named (lowers_of parts))) (ne_eqb o.lower 0 (λ e. let n = is.named in omega arith)) in
      record {
        lines = subst (λ (ids : List ℕ). AreLines (given_in s None None) ids (line ∷ lowers)) (sym name) (is.lower.0, state.normal o.lower line is.lower.0, rest.lines);
        same = λ x.
            let cons = sum_by-cons (value x) ts lists in
            let against_cons = sum_by-cons (term_value x) (opposite o.lit, o.sum) (againsts parts) in
            let more = sum_by-cons (λ (c : ConstraintValue). value x c.terms) line lowers in
            let here = lower_value a s ts o is x some in
            let others = rest.same x in
            omega arith;
        degrees =
            let more = sum_by-cons (λ (c : ConstraintValue). c.degree) line lowers in
            let d = is.degree in
            let others = rest.degrees in omega arith;
        small =
            let more = sum_by-cons (λ (c : ConstraintValue). size c) line lowers in
            let here = lower_total a s ts o is some in
            let d = is.degree in
            let others = rest.small in omega arith;
        low = λ x none.
            let cons = sum_by-cons (value x) ts lists in
            let here = lower_value a s ts o is x some in
            let d = is.degree in
            All-cons (λ (c : ConstraintValue). value x c.terms ≤ c.degree) line lowers (let t = kept_least x (opposite o.lit) o.sum in omega arith) (rest.low x (omega arith));
        most = let others = rest.most in omega arith;
      }
    where
      kept_least : (x : List Bool) (l : Literal) (k : ℕ) → term_value x (l, k) ≤ k
      kept_least x l k = by (lit_true x l)
        where
          by : (b : Bool) → (if b then k else 0) ≤ k
          by true = omega arith
          by false = omega arith

  abbrev HasLines : List Terms → List SumOutput → Type 0
  HasLines lists parts = (lowers : List ConstraintValue) × (leaves : ℕ) × PartLines s lists parts lowers leaves

  pub part_lines : (lists : List Terms) (parts : List SumOutput) → AreLiteralsOf a s lists parts → HasLines lists parts
  part_lines [] [] are = ([], 0, record { lines = tt; same = λ x. refl; degrees = refl; small = omega arith; low = λ x none. All-nil (λ (c : ConstraintValue). value x c.terms ≤ c.degree); most = omega arith })
  part_lines [] (o ∷ parts) are = absurd are
  part_lines (ts ∷ lists) [] are = absurd are
  part_lines (ts ∷ lists) (o ∷ parts) are =
      let rest = part_lines lists parts are.1 in
      ⊎_elim
      (λ (leaf : IsOfLeaf ts o). (rest.0, o.sum + rest.1, leaf_more ts lists o parts rest.0 rest.1 leaf are.0.most rest.2))
      (λ (is : IsDefined a s ts o). (reached_if o.lit.var is.sum ∷ rest.0, rest.1, defined_more ts lists o parts rest.0 rest.1 is are.0.some are.0.most rest.2))
      are.0.known
