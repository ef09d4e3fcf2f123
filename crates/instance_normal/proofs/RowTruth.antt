-- A row holds exactly where what it is made from does.
use Rattle.std.proofs.Common.{◌≡◌, ◌↔◌, ℕ, ◌+◌, ◌≤◌, Bool, true, false, not, if◌then◌else◌, List, [], ◌∷◌, map, refl, sym, ap, ◌∙◌, subst, ℤ, pos, ◌+ℤ◌, ◌≤ℤ◌, neg_ℤ, arith}
use Rattle.std.specs.Prelude.{◌||◌, ◌&&◌, ◌==◌, MatchBool, All, Contains, int_lt}
use Rattle.std.specs.Ordering.{int_eq}
use Rattle.std.specs.List.{AllZip}
use Rattle.std.proofs.Math.Bool.{beq}
use Rattle.std.proofs.lemmas.Int.{ints}
use Rattle.std.proofs.lemmas.Bool.{false≢true, not-true, not_from_false}
use Rattle.std.proofs.lemmas.Bool.Decides.{Decides-int_eq}
use Rattle.std.proofs.lemmas.List.Elements.{All-nil, All-cons, All-head, All-tail}
use Rattle.std.proofs.lemmas.List.Sums.{sum_by-cons}
use Rattle.scut_base.specs.Literal.{Literal}
use Rattle.scut_base.specs.Assignment.{lit_true}
use Rattle.instance.specs.declared.row.Linear.{Linear}
use Rattle.instance.specs.declared.row.Rel.{Rel}
use Rattle.instance.specs.declared.row.Rel.TheVariants.{AtLeast, AtMost, Equal}
use Rattle.instance.specs.Meaning.{clause_true, terms_value, relates, row_holds}
use Rattle.pb_lin.specs.Constraint.{ConstraintValue, Holds, opposite, ones, term_value as coefficient_value, value}
use Rattle.pb_lin.specs.NormalForm.{sum_value}
use Rattle.pb_lin.specs.Restriction.{is_among}
use Rattle.pb_lin.proofs.Covers.{is_same-true}
use Rattle.pb_lin.proofs.Laws.{Holds-normal_form}
use Rattle.instance_normal.specs.NormalForm.{RowSource, Clause, Sum, is_tautology, trivial_row, IsClauseRow, IsRowOf, at_least, at_most, sources_by, linear_sources}
use Rattle.instance_normal.proofs.Members.{one_passes, any_from_member, any_of_members}
use Rattle.instance_normal.proofs.Truth.{truth-opposite, sum_value-terms_value}

-- what is said by what a row is made from
abbrev pub SourceHolds : List Bool → RowSource → Type 0
SourceHolds a (Clause lits) = clause_true a lits ≡ true
SourceHolds a (Sum terms bound) = bound ≤ℤ sum_value a terms

-- ---- clauses

-- a clause with opposite literals is true
pub tautology_true : (a : List Bool) (lits : List Literal) → is_tautology lits ≡ true → clause_true a lits ≡ true
tautology_true a lits test =
    let found = one_passes (λ m. is_among lits (opposite m)) lits test in
    let other = one_passes (λ m. m.var == found.0.var && beq m.neg (not found.0.neg)) lits found.2 in
    by found.0 other.0 found.1 other.1 (is_same-true other.0 (opposite found.0) other.2) (lit_true a found.0) refl
  where
    by : (l m : Literal) → Contains lits l → Contains lits m → m ≡ opposite l → (b : Bool) → lit_true a l ≡ b → clause_true a lits ≡ true
    by l m l_in m_in same true is = any_from_member (lit_true a) lits l l_in is
    by l m l_in m_in same false is = any_from_member (lit_true a) lits m m_in (ap (lit_true a) same ∙ truth-opposite a l ∙ ap not is)

one_more : (a : List Bool) (l : Literal) (lits : List Literal) → value a (ones (l ∷ lits)) ≡ (if lit_true a l then 1 else 0) + value a (ones lits)
one_more a l lits = sum_by-cons (coefficient_value a) (l, 1) (ones lits)

some_true : (a : List Bool) (lits : List Literal) → clause_true a lits ≡ true → 1 ≤ value a (ones lits)
some_true a [] test = absurd (false≢true test)
some_true a (l ∷ lits) test = by (lit_true a l) refl (some_true a lits)
  where
    by : (b : Bool) → lit_true a l ≡ b → (clause_true a lits ≡ true → 1 ≤ value a (ones lits)) → 1 ≤ value a (ones (l ∷ lits))
    by true is rest = omega (arith, one_more a l lits, ap {B = ℕ} (λ (b : Bool). if b then 1 else 0) is)
    by false is rest =
        let later : clause_true a lits ≡ true = ap (λ b. b || clause_true a lits) (sym is) ∙ test in
        omega (arith, one_more a l lits, rest later)

none_true : (a : List Bool) (lits : List Literal) → clause_true a lits ≡ false → value a (ones lits) ≡ 0
none_true a [] test = refl
none_true a (l ∷ lits) test = by (lit_true a l) refl (none_true a lits)
  where
    by : (b : Bool) → lit_true a l ≡ b → (clause_true a lits ≡ false → value a (ones lits) ≡ 0) → value a (ones (l ∷ lits)) ≡ 0
    by true is rest = absurd (false≢true (sym test ∙ ap (λ b. b || clause_true a lits) is))
    by false is rest =
        let later : clause_true a lits ≡ false = ap (λ b. b || clause_true a lits) (sym is) ∙ test in
        omega (arith, one_more a l lits, rest later, ap {B = ℕ} (λ (b : Bool). if b then 1 else 0) is)

true_from_value : (a : List Bool) (lits : List Literal) → 1 ≤ value a (ones lits) → clause_true a lits ≡ true
true_from_value a lits some = by (clause_true a lits) refl
  where
    by : (b : Bool) → clause_true a lits ≡ b → clause_true a lits ≡ true
    by true is = is
    by false is = absurd (omega (arith, none_true a lits is))

clause_exactly : (a : List Bool) (lits : List Literal) (c : ConstraintValue) → IsClauseRow lits c → (Holds a c ↔ (clause_true a lits ≡ true))
clause_exactly a lits c is = (forth, back)
  where
    forth : Holds a c → clause_true a lits ≡ true
    forth holds = any_of_members (lit_true a) is.distinct lits (λ l. (is.literals.same l).0) (true_from_value a is.distinct (subst (Holds a) is.row holds))

    back : clause_true a lits ≡ true → Holds a c
    back test = subst (Holds a) (sym is.row) (some_true a is.distinct (any_of_members (lit_true a) lits is.distinct (λ l. (is.literals.same l).1) test))

clause_row_exactly : (a : List Bool) (lits : List Literal) (c : ConstraintValue) (taut : Bool) → is_tautology lits ≡ taut → MatchBool taut (c ≡ trivial_row) (IsClauseRow lits c) → (Holds a c ↔ (clause_true a lits ≡ true))
clause_row_exactly a lits c true test is = ((λ holds. tautology_true a lits test), (λ _. subst (Holds a) (sym is) (omega arith)))
clause_row_exactly a lits c false test is = clause_exactly a lits c is

-- ---- rows

row_exactly : (a : List Bool) (s : RowSource) (c : ConstraintValue) → IsRowOf s c → (Holds a c ↔ SourceHolds a s)
row_exactly a (Clause lits) c is = clause_row_exactly a lits c (is_tautology lits) refl is.says
row_exactly a (Sum terms bound) c is = Holds-normal_form c terms bound is.says a

pub sources_hold : (a : List Bool) (ss : List RowSource) (cs : List ConstraintValue) → AllZip IsRowOf ss cs → All (Holds a) cs → All (SourceHolds a) ss
sources_hold a [] [] zipped all = All-nil (SourceHolds a)
sources_hold a [] (c ∷ cs) zipped all = absurd zipped
sources_hold a (s ∷ ss) [] zipped all = absurd zipped
sources_hold a (s ∷ ss) (c ∷ cs) zipped all = All-cons (SourceHolds a) s ss ((row_exactly a s c zipped.0).0 (All-head (Holds a) c cs all)) (sources_hold a ss cs zipped.1 (All-tail (Holds a) c cs all))

pub rows_hold : (a : List Bool) (ss : List RowSource) (cs : List ConstraintValue) → AllZip IsRowOf ss cs → All (SourceHolds a) ss → All (Holds a) cs
rows_hold a [] [] zipped all = All-nil (Holds a)
rows_hold a [] (c ∷ cs) zipped all = absurd zipped
rows_hold a (s ∷ ss) [] zipped all = absurd zipped
rows_hold a (s ∷ ss) (c ∷ cs) zipped all = All-cons (Holds a) c cs ((row_exactly a s c zipped.0).1 (All-head (SourceHolds a) s ss all)) (rows_hold a ss cs zipped.1 (All-tail (SourceHolds a) s ss all))

-- ---- linear rows

le_from_test : (x y : ℤ) → not (int_lt y x) ≡ true → x ≤ℤ y
le_from_test x y h = grind (arith, ints, not-true (int_lt y x) h)

test_from_le : (x y : ℤ) → x ≤ℤ y → not (int_lt y x) ≡ true
test_from_le x y h = not_from_false (int_lt y x) (grind (arith, ints))

negated_sum : (a : List Bool) (terms : List (ℤ × Literal)) → terms_value a (map (λ t. (neg_ℤ t.0, t.1)) terms) ≡ neg_ℤ (terms_value a terms)
negated_sum a [] = omega (arith, ints)
negated_sum a (t ∷ terms) = (let rest = negated_sum a terms in by (lit_true a t.1) rest)
  where
    by : (b : Bool) → terms_value a (map (λ u. (neg_ℤ u.0, u.1)) terms) ≡ neg_ℤ (terms_value a terms) → (if b then neg_ℤ t.0 else pos 0) +ℤ terms_value a (map (λ u. (neg_ℤ u.0, u.1)) terms) ≡ neg_ℤ ((if b then t.0 else pos 0) +ℤ terms_value a terms)
    by true rest = omega (arith, ints)
    by false rest = omega (arith, ints)

-- at least: the sum reaches the bound
least : (a : List Bool) (row : Linear) → (SourceHolds a (at_least row) ↔ (row.bound ≤ℤ terms_value a row.terms))
least a row = (let sum = sum_value-terms_value a row.terms in ((λ h. omega (arith, ints)), (λ h. omega (arith, ints))))

most : (a : List Bool) (row : Linear) → (SourceHolds a (at_most row) ↔ (terms_value a row.terms ≤ℤ row.bound))
most a row =
    let sum = sum_value-terms_value a (map (λ t. (neg_ℤ t.0, t.1)) row.terms) in
    let turned = negated_sum a row.terms in
    ((λ h. omega (arith, ints)), (λ h. omega (arith, ints)))

linear_by : (a : List Bool) (row : Linear) (rel : Rel) → (All (SourceHolds a) (sources_by rel row) ↔ (relates rel (terms_value a row.terms) row.bound ≡ true))
linear_by a row AtLeast = (
  (λ all. test_from_le row.bound (terms_value a row.terms) ((least a row).0 (All-head (SourceHolds a) (at_least row) [] all))),
  (λ test. All-cons (SourceHolds a) (at_least row) [] ((least a row).1 (le_from_test row.bound (terms_value a row.terms) test)) (All-nil (SourceHolds a))),
)
linear_by a row AtMost = (
  (λ all. test_from_le (terms_value a row.terms) row.bound ((most a row).0 (All-head (SourceHolds a) (at_most row) [] all))),
  (λ test. All-cons (SourceHolds a) (at_most row) [] ((most a row).1 (le_from_test (terms_value a row.terms) row.bound test)) (All-nil (SourceHolds a))),
)
linear_by a row Equal = (
  (λ all.
      let low = (least a row).0 (All-head (SourceHolds a) (at_least row) (at_most row ∷ []) all) in
      let high = (most a row).0 (All-head (SourceHolds a) (at_most row) [] (All-tail (SourceHolds a) (at_least row) (at_most row ∷ []) all)) in
      equal (terms_value a row.terms) row.bound low high),
  (λ test.
      let same = unequal (terms_value a row.terms) row.bound test in
      All-cons (SourceHolds a) (at_least row) (at_most row ∷ []) ((least a row).1 (omega (arith, ints))) (All-cons (SourceHolds a) (at_most row) [] ((most a row).1 (omega (arith, ints))) (All-nil (SourceHolds a)))),
)
  where
    equal : (x y : ℤ) → y ≤ℤ x → x ≤ℤ y → int_eq x y ≡ true
    equal x y low high = (let same : x ≡ y = omega (arith, ints) in (Decides-int_eq x y).1 same)

    unequal : (x y : ℤ) → int_eq x y ≡ true → x ≡ y
    unequal x y test = (Decides-int_eq x y).0 test

-- a linear row holds exactly where what it gives does
pub linear_exactly : (a : List Bool) (row : Linear) → (All (SourceHolds a) (linear_sources row) ↔ (row_holds a row ≡ true))
linear_exactly a row = linear_by a row row.rel
