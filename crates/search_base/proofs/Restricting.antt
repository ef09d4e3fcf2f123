-- A line covers a constraint where some literals are true.
use Rattle.std.proofs.Common.{◌≡◌, ◌≢◌, ℕ, suc, ◌+◌, ◌<◌, ◌≤◌, ◌==◌, Bool, true, false, not, ◌&&◌, ◌||◌, cond, if◌then◌else◌, List, [], ◌∷◌, sum_by, refl, ap, sym, ◌∙◌, arith}
use Rattle.std.proofs.Math.Bool.{beq}
use Rattle.std.specs.List.{All, AllPairs, filter}
use Rattle.std.proofs.lemmas.Bool.{cond-true, cond-false, eqb-true}
use Rattle.std.proofs.lemmas.List.Elements.{All-filter, All-head, All-tail}
use Rattle.std.proofs.lemmas.List.Kept.{AllPairs-filter}
use Rattle.std.proofs.lemmas.List.Sums.{sum_by-cons}
use Rattle.scut_base.specs.Literal.{Literal}
use Rattle.scut_base.specs.Assignment.{lit_true, value_of}
use Rattle.pb_lin.specs.Constraint.{ConstraintValue, Covers, term_value, value}
use Rattle.pb_lin.specs.Restriction.{is_set, is_among, met_value, restriction}
use Rattle.pb_lin.proofs.Truths.{not_among}
use Rattle.cutting_planes.proofs.Terms.{Terms}
use Rattle.proof_laws.proofs.Semantics.{AreWithin}
use Rattle.sum_outputs.proofs.Glue.{table, table_at, none_true, AreApart}
use Rattle.totalizer.specs.Meaning.{AreTruthsWith}
use Rattle.totalizer.proofs.Restricted.{set_by, among_them}

-- ---- an assignment that makes literals true, and is as another elsewhere

abbrev truth_by : List Literal → List Bool → ℕ → Bool
truth_by truths x v = if is_set truths v then is_among truths (record { var = v; neg = false }) else value_of x v

abbrev pub with_truths : ℕ → List Literal → List Bool → List Bool
with_truths n truths x = table n (truth_by truths x)

-- one literal more
joined : (b neg other one : Bool) → (b ≡ true → (other ≡ false) × (one ≡ false)) → (b ≡ false → other ≡ not one) →
    ((b && beq neg true) || other) ≡ not ((b && beq neg false) || one)
joined true true other one none rest = ap not (sym (none refl).1)
joined true false other one none rest = (none refl).0
joined false neg other one none rest = rest refl

still_set : (b rest : Bool) → b ≡ false → (b || rest) ≡ true → rest ≡ true
still_set true rest e set = cc
still_set false rest e set = set

-- of literals of distinct variables, the two signs of one that is set differ
both_signs : (v : ℕ) (truths : List Literal) → AllPairs (λ l m. l.var ≢ m.var) truths → is_set truths v ≡ true →
    is_among truths (record { var = v; neg = true }) ≡ not (is_among truths (record { var = v; neg = false }))
both_signs v [] apart set = cc
both_signs v (l ∷ truths) apart set =
    joined (l.var == v) l.neg (is_among truths (record { var = v; neg = true }))
    (is_among truths (record { var = v; neg = false }))
    (λ same. (
      not_among truths (record { var = v; neg = true }) (others same),
      not_among truths (record { var = v; neg = false }) (others same),
    ))
    (λ other. both_signs v truths (λ i j d less short. apart (suc i) (suc j) d (omega arith) (omega arith))
    (still_set (l.var == v) (is_set truths v) other set))
  where
    others : (l.var == v) ≡ true → All (λ m. m.var ≢ v) truths
    others same k d short e = apart 0 (suc k) d (omega arith) (omega arith) (eqb-true l.var v same ∙ sym e)

none_more : (b c s a : Bool) → (b || s) ≡ false → (s ≡ false → a ≡ false) → ((b && c) || a) ≡ false
none_more true c s a e rest = cc
none_more false c s a e rest = rest e

unset_among : (l : Literal) (truths : List Literal) → is_set truths l.var ≡ false → is_among truths l ≡ false
unset_among l [] e = refl
unset_among l (m ∷ truths) e =
    none_more (m.var == l.var) (beq m.neg l.neg) (is_set truths l.var) (is_among truths l) e (unset_among l truths)

-- where one number is as another, so is a literal of it
same_truth : (neg : Bool) (v w : Bool) → v ≡ w → (if neg then not v else v) ≡ (if neg then not w else w)
same_truth true v w e = ap not e
same_truth false v w e = e

module _ (n : ℕ) (truths : List Literal) (apart : AllPairs (λ l m. l.var ≢ m.var) truths) (x : List Bool) where
  -- a literal of a variable that is set is true where it is one of those
  set_truth : (l : Literal) → 0 < l.var → l.var ≤ n → is_set truths l.var ≡ true →
      lit_true (with_truths n truths x) l ≡ is_among truths l
  set_truth l some upto set = by l.neg
    where
      here : value_of (with_truths n truths x) l.var ≡ is_among truths (record { var = l.var; neg = false })
      here = table_at n (truth_by truths x) l.var some upto
          ∙ cond-true (is_set truths l.var) (is_among truths (record { var = l.var; neg = false })) (value_of x l.var) set

      by : (neg : Bool) →
          (if neg then not (value_of (with_truths n truths x) l.var) else value_of (with_truths n truths x) l.var) ≡
          is_among truths (record { var = l.var; neg = neg })
      by true = ap not here ∙ sym (both_signs l.var truths apart set)
      by false = here

  open_truth : (l : Literal) → 0 < l.var → l.var ≤ n → is_set truths l.var ≡ false →
      lit_true (with_truths n truths x) l ≡ lit_true x l
  open_truth l some upto open' = same_truth l.neg (value_of (with_truths n truths x) l.var) (value_of x l.var)
      (table_at n (truth_by truths x) l.var some upto
      ∙ cond-false (is_set truths l.var) (is_among truths (record { var = l.var; neg = false })) (value_of x l.var) open')

  -- ---- sums

  -- of a term that is set (s), met (m) and true with these (v) and before (w)
  parts : (s m v w : Bool) (k : ℕ) → (s ≡ true → v ≡ m) → (s ≡ false → v ≡ w) → (s ≡ false → m ≡ false) →
      (if v then k else 0) ≡ (if not s then (if w then k else 0) else 0) + (if m then k else 0)
  parts true m v w k set open' none = ap (λ (b : Bool). if b then k else 0) (set refl) ∙ omega arith
  parts false m v w k set open' none =
      let zero : (if m then k else 0) ≡ 0 = cond-false m k 0 (none refl) in
      let same : (if v then k else 0) ≡ (if w then k else 0) = ap (λ (b : Bool). if b then k else 0) (open' refl) in
      omega arith

  kept_term : (b : Bool) (t : Literal × ℕ) (terms : Terms) →
      value x (cond b (t ∷ terms) terms) ≡ (if b then term_value x t else 0) + value x terms
  kept_term true t terms = sum_by-cons (term_value x) t terms
  kept_term false t terms = omega arith

  pub value_split : (terms : Terms) → AreWithin n terms → value (with_truths n truths x) terms ≡
      value x (filter (λ t. not (is_set truths t.0.var)) terms) + sum_by (met_value truths) terms
  value_split [] within = refl
  value_split (t ∷ terms) within =
      let w = All-head (λ u. (0 < u.0.var) × (u.0.var ≤ n)) t terms within in
      let one = parts (is_set truths t.0.var) (is_among truths t.0) (lit_true (with_truths n truths x) t.0)
      (lit_true x t.0) t.1 (set_truth t.0 w.0 w.1) (open_truth t.0 w.0 w.1) (unset_among t.0 truths) in
      let rest = value_split terms (All-tail (λ u. (0 < u.0.var) × (u.0.var ≤ n)) t terms within) in
      let whole = sum_by-cons (term_value (with_truths n truths x)) t terms in
      let met = sum_by-cons (met_value truths) t terms in
      let kept = kept_term (not (is_set truths t.0.var)) t (filter (λ u. not (is_set truths u.0.var)) terms) in
      omega arith

-- ---- lines

module _ (n : ℕ) (truths : List Literal) (apart : AllPairs (λ l m. l.var ≢ m.var) truths) (c g : ConstraintValue)
    (within : AreWithin n c.terms) (goal_within : AreWithin n g.terms) (u v : ℕ) (enough : v + g.degree ≤ c.degree + u)
  where
    abbrev is_left : Literal × ℕ → Bool
    is_left t = not (is_set truths t.0.var)

    -- Where both differ by as much wherever the literals are true, the line covers the goal.
    pub covers_same : AreApart c.terms → ((x : List Bool) →
        value (with_truths n truths x) c.terms + u ≡ value (with_truths n truths x) g.terms + v) →
        Covers (restriction c truths) (restriction g truths)
    covers_same distinct same x =
        let none = none_true n (filter is_left c.terms) (AllPairs-filter (λ s t. s.0.var ≢ t.0.var) is_left c.terms distinct)
        (All-filter is_left (λ t. (0 < t.0.var) × (t.0.var ≤ n)) c.terms within) in
        let zero = none.1 in
        let least = same none.0 in
        let least_line = value_split n truths apart none.0 c.terms within in
        let least_goal = value_split n truths apart none.0 g.terms goal_within in
        let here = same x in
        let line = value_split n truths apart x c.terms within in
        let goal = value_split n truths apart x g.terms goal_within in
        omega arith

    -- and where it exceeds the goal by no more, and the literals' weights are within the goal's degree
    pub covers_within : sum_by (met_value truths) g.terms ≤ g.degree → ((x : List Bool) →
        value (with_truths n truths x) c.terms + u ≤ value (with_truths n truths x) g.terms + v) →
        Covers (restriction c truths) (restriction g truths)
    covers_within met most x =
        let here = most x in
        let line = value_split n truths apart x c.terms within in
        let goal = value_split n truths apart x g.terms goal_within in
        omega arith

-- "0 >= 0" covers a goal that the literals reach by themselves
pub nothing_covers : (truths : List Literal) (g : ConstraintValue) → g.degree ≤ sum_by (met_value truths) g.terms →
    Covers (restriction (record { terms = []; degree = 0 }) truths) (restriction g truths)
nothing_covers truths g met x = omega arith

-- the literal is true where these are
pub true_with : (n : ℕ) (l : Literal) (truths : List Literal) (x : List Bool) → 0 < l.var → l.var ≤ n →
    AreTruthsWith l truths → lit_true (with_truths n truths x) l ≡ true
true_with n l truths x some upto are =
    set_truth n truths are.apart x l some upto (set_by l truths are) ∙ among_them l truths are
