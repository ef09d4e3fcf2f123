-- Implied clauses among the lines that a search adds.
use Rattle.std.proofs.Common.{◌≡◌, ℕ, ◌+◌, zero, suc, Bool, true, false, cond, List, [], ◌∷◌, ◌++◌, refl, arith, sym, ap, ◌∙◌, subst, append-nil, append_assoc}
use Rattle.std.specs.List.{count_by}
use Rattle.std.proofs.lemmas.List.Sums.{sum_by-cons}
use Rattle.pb_lin.specs.Constraint.{ConstraintValue}
use Rattle.pb_lin.specs.Problem.{ProblemValue}
use Rattle.hint_rup.specs.declared.hint.Hint.{Hint}
use Rattle.proof_laws.specs.declared.line.Line.{Line}
use Rattle.proof_laws.specs.declared.line.Line.TheVariants.{Rup}
use Rattle.oracle.specs.Solving.{AddsSearchLines, is_rup}
use Rattle.cdcl_laws.specs.SearchLines.{AddsLearned}

-- lists that begin alike go on alike
tails_same : (a xs ys : List Line) → a ++ xs ≡ a ++ ys → xs ≡ ys
tails_same [] xs ys e = e
tails_same (x ∷ a) xs ys e = tails_same a xs ys (by x (a ++ xs) x (a ++ ys) e)
  where
    by : (x : Line) (xs : List Line) (y : Line) (ys : List Line) → x ∷ xs ≡ y ∷ ys → xs ≡ ys
    by x xs y ys e = cc

-- 1 for an implied clause, and else 0
abbrev implies : Line → ℕ
implies line = cond (is_rup line) 1 0

-- an implied clause stands after the lines that imply none
past_learned : (a b first after : List Line) (goal : ConstraintValue) (hints : List Hint) → count_by is_rup a ≡ 0 → a ++ b ≡ first ++ (Rup goal hints ∷ after)
    → (front : List Line) × (b ≡ front ++ (Rup goal hints ∷ after))
past_learned [] b first after goal hints none e = (first, e)
past_learned (x ∷ a) b [] after goal hints none e =
    let is : x ≡ Rup goal hints = cc in
    let one : 1 + count_by is_rup a ≡ 0 = subst (λ (l : Line). implies l + count_by is_rup a ≡ 0) is (sym (sum_by-cons implies x a) ∙ none) in
    absurd (omega (arith, one))
past_learned (x ∷ a) b (y ∷ first) after goal hints none e =
    let rest : a ++ b ≡ first ++ (Rup goal hints ∷ after) = cc in
    past_learned a b first after goal hints (let all = sum_by-cons implies x a in omega (arith, all, none)) rest

nothing_there : (front after : List Line) (x : Line) → [] ≡ front ++ (x ∷ after) → ⊥
nothing_there [] after x e = cc
nothing_there (y ∷ front) after x e = cc

-- learned lines imply nothing
pub none_implied : (p : ProblemValue) (old new : List Line) (P : ConstraintValue → Type 0) → AddsLearned p old new → (first after : List Line) (goal : ConstraintValue) (hints : List Hint)
    → new ≡ old ++ (first ++ (Rup goal hints ∷ after)) → P goal
none_implied p old new P learned first after goal hints is =
    let more = learned.adds.more in
    let same : more ≡ first ++ (Rup goal hints ∷ after) = tails_same old more (first ++ (Rup goal hints ∷ after)) (sym learned.adds.is ∙ is) in
    let past = past_learned more [] first after goal hints learned.none_implied (append-nil more ∙ same) in
    absurd (nothing_there past.0 after (Rup goal hints) past.1)

-- after learned lines only later lines imply something
pub implied_later : (p q : ProblemValue) (old mid new : List Line) (P : ConstraintValue → Type 0) → AddsLearned p old mid → AddsSearchLines q mid new
    → ((first after : List Line) (goal : ConstraintValue) (hints : List Hint) → new ≡ mid ++ (first ++ (Rup goal hints ∷ after)) → P goal)
    → (first after : List Line) (goal : ConstraintValue) (hints : List Hint) → new ≡ old ++ (first ++ (Rup goal hints ∷ after)) → P goal
implied_later p q old mid new P learned then only first after goal hints is =
    let more = learned.adds.more in
    let whole : old ++ (more ++ then.more) ≡ old ++ (first ++ (Rup goal hints ∷ after)) =
    sym (append_assoc old more then.more) ∙ ap (λ (ls : List Line). ls ++ then.more) (sym learned.adds.is) ∙ sym then.is ∙ is in
    let past = past_learned more then.more first after goal hints learned.none_implied (tails_same old (more ++ then.more) (first ++ (Rup goal hints ∷ after)) whole) in
    only past.0 after goal hints (then.is ∙ ap (λ (ls : List Line). mid ++ ls) past.1)

-- where one clause was implied, it is that one
pub one_implied : (old : List Line) (c goal : ConstraintValue) (given hints : List Hint) (first after : List Line) → old ++ (Rup c given ∷ []) ≡ old ++ (first ++ (Rup goal hints ∷ after)) → goal ≡ c
one_implied old c goal given hints first after e = by first (tails_same old (Rup c given ∷ []) (first ++ (Rup goal hints ∷ after)) e)
  where
    by : (first : List Line) → Rup c given ∷ [] ≡ first ++ (Rup goal hints ∷ after) → goal ≡ c
    by [] e = cc
    by (y ∷ first) e = absurd (nothing_there first after (Rup goal hints) (let rest : [] ≡ first ++ (Rup goal hints ∷ after) = cc in rest))
