-- Partial assignments that differ only in how many open variables there are at their end.
use Rattle.std.specs.Prelude.{◌≡◌, ◌≢◌, ℕ, ◌-◌, Bool, not, ◌&&◌, if◌then◌else◌, Option, Some, None, List, [], ◌∷◌, length, replicate, All, pos, ◌-ℤ◌, ◌<ℤ◌, int_lt, ℤ, refl}
use Rattle.std.proofs.Common.{sym, ◌∙◌, ap, subst, get_or, arith, ⊎_elim}
use Rattle.std.specs.Option.{is_none, option_map}
use Rattle.std.specs.List.{filter}
use Rattle.std.proofs.lemmas.Bool.{cases_eq}
use Rattle.std.proofs.lemmas.List.{get_or-set_same, get_or-set_other, length-set, length-replicate}
use Rattle.std.proofs.lemmas.List.Elements.{All-head, All-tail, All-filter}
use Rattle.scut_base.specs.Literal.{Literal}
use Rattle.scut_base.specs.Assignment.{partial_truth}
use Rattle.scut_base.proofs.Lists.{sum_by_same}
use Rattle.pb_lin.specs.Constraint.{ConstraintValue, IsVariable, possible_value, slack, unless_false}
use Rattle.pb_lin.specs.Given.{IsWithin}
use Rattle.pb_lin.specs.Propagation.{is_forced}
use Rattle.pb_lin.proofs.Sums.{filter_same}
use Rattle.hint_rup.specs.Propagation.{with_true, forced, Conflicts}
use Rattle.hint_rup.proofs.ForcedLiterals.{with_all}
use Rattle.hint_rup.proofs.Conflict.{conflicts_none, conflicts_here, conflicts_later, conflicts_cases}
use Rattle.hint_rup.proofs.Agreement.{all_open}

abbrev Partials : Type 0
Partials = List (Option Bool)

abbrev Alike : Partials → Partials → Type 0
Alike p q = (i : ℕ) → get_or p i None ≡ get_or q i None

truth_alike : (p q : Partials) → Alike p q → (l : Literal) → partial_truth p l ≡ partial_truth q l
truth_alike p q alike l = ap (λ o. option_map (λ b. if l.neg then not b else b) o) (alike (l.var - 1))

slack_alike : (p q : Partials) → Alike p q → (c : ConstraintValue) → slack p c ≡ slack q c
slack_alike p q alike c = ap (λ (n : ℕ). pos n -ℤ pos c.degree) (sum_by_same (possible_value p) (possible_value q) (λ t. ap (λ o. unless_false o t.1) (truth_alike p q alike t.0)) c.terms)

forced_alike : (p q : Partials) → Alike p q → (c : ConstraintValue) (t : Literal × ℕ) → is_forced p c t ≡ is_forced q c t
forced_alike p q alike c t =
    ap (λ o. is_none o && int_lt (slack p c) (pos t.1)) (truth_alike p q alike t.0)
    ∙ ap (λ (z : ℤ). is_none (partial_truth q t.0) && int_lt z (pos t.1)) (slack_alike p q alike c)

-- a variable of both is set
set_alike : (p q : Partials) (l : Literal) → IsVariable (length p) l.var → IsVariable (length q) l.var → Alike p q → Alike (with_true p l) (with_true q l)
set_alike p q l in_p in_q alike i = ⊎_elim
    (λ (e : i ≡ l.var - 1). at (with_true p l) i e ∙ here p in_p ∙ sym (here q in_q) ∙ sym (at (with_true q l) i e))
    (λ (other : i ≢ l.var - 1). get_or-set_other p (l.var - 1) i (Some (not l.neg)) None other ∙ alike i ∙ sym (get_or-set_other q (l.var - 1) i (Some (not l.neg)) None other))
    (cases_eq i (l.var - 1))
  where
    at : (r : Partials) (k : ℕ) → k ≡ l.var - 1 → get_or r k None ≡ get_or r (l.var - 1) None
    at r k e = ap (λ (m : ℕ). get_or r m None) e

    here : (r : Partials) → IsVariable (length r) l.var → get_or (with_true r l) (l.var - 1) None ≡ Some (not l.neg)
    here r is = let positive = is.0 in let most = is.1 in get_or-set_same r (l.var - 1) (Some (not l.neg)) None (omega arith)

length-with_all : (p : Partials) (terms : List (Literal × ℕ)) → length (with_all p terms) ≡ length p
length-with_all p [] = refl
length-with_all p (t ∷ terms) = length-with_all (with_true p t.0) terms ∙ length-set p (t.0.var - 1) (Some (not t.0.neg))

abbrev AreVariables : ℕ → List (Literal × ℕ) → Type 0
AreVariables n terms = All (λ t. IsVariable n t.0.var) terms

all_alike : (p q : Partials) (terms : List (Literal × ℕ)) → AreVariables (length p) terms → AreVariables (length q) terms → Alike p q → Alike (with_all p terms) (with_all q terms)
all_alike p q [] in_p in_q alike = alike
all_alike p q (t ∷ terms) in_p in_q alike =
    all_alike (with_true p t.0) (with_true q t.0) terms
    (subst (λ (n : ℕ). AreVariables n terms) (sym (length-set p (t.0.var - 1) (Some (not t.0.neg)))) (All-tail (λ s. IsVariable (length p) s.0.var) t terms in_p))
    (subst (λ (n : ℕ). AreVariables n terms) (sym (length-set q (t.0.var - 1) (Some (not t.0.neg)))) (All-tail (λ s. IsVariable (length q) s.0.var) t terms in_q))
    (set_alike p q t.0 (All-head (λ s. IsVariable (length p) s.0.var) t terms in_p) (All-head (λ s. IsVariable (length q) s.0.var) t terms in_q) alike)

forced_variables : (p : Partials) (n : ℕ) (c : ConstraintValue) → IsWithin n c → AreVariables n (filter (is_forced p c) c.terms)
forced_variables p n c within = All-filter (is_forced p c) (λ t. IsVariable n t.0.var) c.terms (λ k d short. (within.normal.merged.from_one k d short, within.upto k d short))

propagated_alike : (p q : Partials) (c : ConstraintValue) → IsWithin (length p) c → IsWithin (length q) c → Alike p q → Alike (forced p c) (forced q c)
unfolding forced
propagated_alike p q c in_p in_q alike i =
    let same = filter_same (is_forced p c) (is_forced q c) (forced_alike p q alike c) c.terms in
    all_alike p q (filter (is_forced p c) c.terms) (forced_variables p (length p) c in_p) (subst (AreVariables (length q)) (sym same) (forced_variables q (length q) c in_q)) alike i
    ∙ ap (λ (ts : List (Literal × ℕ)). get_or (with_all q ts) i None) same

length-forced : (p : Partials) (c : ConstraintValue) → length (forced p c) ≡ length p
unfolding forced
length-forced p c = length-with_all p (filter (is_forced p c) c.terms)

conflicts_alike : (p q : Partials) (cs : List ConstraintValue) → All (IsWithin (length p)) cs → All (IsWithin (length q)) cs → Alike p q → Conflicts p cs → Conflicts q cs
conflicts_alike p q [] in_p in_q alike found = absurd (conflicts_none p found)
conflicts_alike p q (c ∷ cs) in_p in_q alike found =
    let first = All-head (IsWithin (length p)) c cs in_p in
    let other = All-head (IsWithin (length q)) c cs in_q in
    ⊎_elim
    (λ (violated : slack p c <ℤ pos 0). conflicts_here q c cs (subst (λ (z : ℤ). z <ℤ pos 0) (slack_alike p q alike c) violated))
    (λ (later : Conflicts (forced p c) cs). conflicts_later q c cs (conflicts_alike (forced p c) (forced q c) cs
    (subst (λ (n : ℕ). All (IsWithin n) cs) (sym (length-forced p c)) (All-tail (IsWithin (length p)) c cs in_p))
    (subst (λ (n : ℕ). All (IsWithin n) cs) (sym (length-forced q c)) (All-tail (IsWithin (length q)) c cs in_q))
    (propagated_alike p q c first other alike) later))
    (conflicts_cases p c cs found)

pub conflicts_at_length : (m n : ℕ) (cs : List ConstraintValue) → All (IsWithin m) cs → All (IsWithin n) cs → Conflicts (replicate m None) cs → Conflicts (replicate n None) cs
conflicts_at_length m n cs in_m in_n found =
    let open' : Option Bool = None in
    conflicts_alike (replicate m open') (replicate n open') cs
    (subst (λ (k : ℕ). All (IsWithin k) cs) (sym (length-replicate m open')) in_m)
    (subst (λ (k : ℕ). All (IsWithin k) cs) (sym (length-replicate n open')) in_n)
    (λ i. all_open m i ∙ sym (all_open n i)) found
