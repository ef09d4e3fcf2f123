-- What the answers for the costs of a model say, row by row.
use Rattle.std.proofs.Common.{◌≡◌, inl, inr, ℕ, suc, ◌<◌, ◌≤◌, Bool, true, false, List, [], ◌∷◌, ◌++◌, length, get_or, refl, sym, ap, ◌∙◌, subst, arith, ℤ, pos, ◌+ℤ◌, ◌≤ℤ◌, sum_by, if◌then◌else◌, ◌&&◌, ◌==◌}
use Rattle.std.proofs.Math.Bool.{beq}
use Rattle.std.specs.List.{AllZip, Contains}
use Rattle.std.proofs.lemmas.Int.{ints}
use Rattle.std.proofs.lemmas.List.{get_or-map, length-map}
use Rattle.std.proofs.lemmas.List.Sums.{sum_by-le-sum_by}
use Rattle.scut_base.specs.Literal.{Literal}
use Rattle.scut_base.proofs.Lists.{Contains-nil, Contains-head, Contains-cons, Contains-cons_cases, sum_by_same}
use Rattle.instance_normal.proofs.Members.{any_of_members}
use Rattle.pb_lin.specs.Constraint.{term_value, total, value}
use Rattle.pb_lin.specs.CostRow.{CostRowValue, row_cost}
use Rattle.pb_lin.specs.Problem.{ProblemValue, problem_costs}
use Rattle.pb_lin.specs.Restriction.{is_among, met_value}
use Rattle.pb_lin.proofs.Sums.{term_value-le}
use Rattle.proof_laws.specs.State.{StateValue}
use Rattle.proof_laws.specs.Replay.{IsReplay}
use Rattle.proof_laws.specs.declared.line.Line.{Line}
use Rattle.totalizer.specs.declared.bound.Bound.{Bound}
use Rattle.totalizer.specs.declared.bound.Bound.TheVariants.{Always, Never, At}
use Rattle.search_base.specs.CostBounds.{IsAlwaysOver, IsCostBound, IsOverAt}
use Rattle.search_base.specs.Cutting.{AreAnswers, AreAnswersAt, AreNamed, AreThese, IsAlwaysAt, IsAnswerAt, IsNamed, answered_literal, answered_literals}
use Rattle.search_base.proofs.Restricting.{nothing_covers}

pub value_most : (x : List Bool) (terms : List (Literal × ℕ)) → value x terms ≤ total terms
value_most x terms = sum_by-le-sum_by (term_value x) (λ t. t.1) terms (term_value-le x)

-- ---- the same literals

same_tests : (b c : Bool) → (b ≡ true → c ≡ true) → (c ≡ true → b ≡ true) → b ≡ c
same_tests true c one other = sym (one refl)
same_tests false true one other = other refl
same_tests false false one other = refl

these_among : (lits truths : List Literal) → AreThese lits truths → (l : Literal) → is_among truths l ≡ is_among lits l
these_among lits truths are l = same_tests (is_among truths l) (is_among lits l)
    (any_of_members (λ m. m.var == l.var && beq m.neg l.neg) truths lits (λ m there. (are.same m).0 there))
    (any_of_members (λ m. m.var == l.var && beq m.neg l.neg) lits truths (λ m there. (are.same m).1 there))

these_met : (lits truths : List Literal) → AreThese lits truths → (terms : List (Literal × ℕ)) →
    sum_by (met_value truths) terms ≡ sum_by (met_value lits) terms
these_met lits truths are terms = sum_by_same (met_value truths) (met_value lits)
    (λ t. ap (λ (b : Bool). if b then t.1 else 0) (these_among lits truths are t.0)) terms

-- ---- one answer

number_within : (v : ℤ) (m n : ℕ) (offset : ℤ) → v ≤ℤ (pos m +ℤ offset) → v ≡ pos n +ℤ offset → n ≤ m
number_within v m n offset le is = omega (arith, ints)

always_at : (p : ProblemValue) (lines : List Line) (s : StateValue) (row : CostRowValue) (v : ℤ) (lits : List Literal)
    (id : ℕ) (named : Bound) → IsAlwaysOver p lines row v id s → IsNamed row v lits (Always id) named →
    (other : ℕ) → named ≡ Always other → IsAlwaysAt p lines s row v lits other
always_at p lines s row v lits id named over (inl (none, met)) other is =
    let zero : other ≡ 0 = let e : ◌≡◌ {A = Bound} (Always other) (Always 0) = sym is ∙ none in cc in
    subst (λ (i : ℕ). IsAlwaysAt p lines s row v lits i) (sym zero) (record {
      own = inl refl;
      covers = (
        record { terms = []; degree = 0 },
        refl,
        λ truths are n at.
            let same = these_met lits truths are row.terms in
            let most = number_within v (sum_by (met_value lits) row.terms) n row.offset met at in
            nothing_covers truths (record { terms = row.terms; degree = n }) (omega arith),
      );
    })
always_at p lines s row v lits id named over (inr (kept, met)) other is =
    let same_id : other ≡ id = let e : ◌≡◌ {A = Bound} (Always other) (Always id) = sym is ∙ kept in cc in
    let covers = over.covers in
    subst (λ (i : ℕ). IsAlwaysAt p lines s row v lits i) (sym same_id) (record {
      own = over.own;
      covers = (
        covers.0,
        covers.1,
        λ truths are. covers.2 truths (record {
          apart = are.apart;
          within = subst (λ (n : ℕ). (pos n +ℤ row.offset) ≤ℤ v) (sym (these_met lits truths are row.terms)) met;
        }),
      );
    })

-- the answer as the log names it, which is none but the one that it is
named_at : (p : ProblemValue) (lines : List Line) (s : StateValue) (x : List Bool) (lits : List Literal)
    (row : CostRowValue) (answer named : Bound) → IsReplay p lines s → (answer ≡ Never → ⊥) →
    IsCostBound p lines row (row_cost x row) answer → IsNamed row (row_cost x row) lits answer named →
    IsAnswerAt p lines s x lits row named
named_at p lines s x lits row (Always id) (Always other) reached possible is how =
    always_at p lines s row (row_cost x row) lits id (Always other) (is s reached) how other refl
named_at p lines s x lits row (Always id) Never reached possible is (inl how) = cc
named_at p lines s x lits row (Always id) Never reached possible is (inr how) = cc
named_at p lines s x lits row (Always id) (At l other) reached possible is (inl how) = cc
named_at p lines s x lits row (Always id) (At l other) reached possible is (inr how) = cc
named_at p lines s x lits row Never named reached possible is how = absurd (possible refl)
named_at p lines s x lits row (At l id) named reached possible is how =
    subst (IsAnswerAt p lines s x lits row) (sym how) (is s reached)

-- ---- all answers

zip_at : {X Y : Type 0} (R : X → Y → Type 0) (xs : List X) (ys : List Y) → length ys ≡ length xs →
    ((k : ℕ) (d : X) (e : Y) → k < length xs → R (get_or xs k d) (get_or ys k e)) → AllZip R xs ys
zip_at R [] [] same each = tt
zip_at R [] (y ∷ ys) same each = absurd (omega arith)
zip_at R (x ∷ xs) [] same each = absurd (omega arith)
zip_at R (x ∷ xs) (y ∷ ys) same each =
    (each 0 x y (omega arith), zip_at R xs ys (omega arith) (λ k d e short. each (suc k) d e (omega arith)))

-- the literals that are named are those that were answered
named_literal : (row : CostRowValue) (v : ℤ) (lits : List Literal) (answer named : Bound) →
    IsNamed row v lits answer named → answered_literal named ≡ answered_literal answer
named_literal row v lits (Always id) named (inl how) = ap answered_literal how.0
named_literal row v lits (Always id) named (inr how) = ap answered_literal how.0
named_literal row v lits Never named how = ap answered_literal how
named_literal row v lits (At l id) named how = ap answered_literal how

same_literals : (answers named : List Bound) → length named ≡ length answers →
    ((i : ℕ) (b c : Bound) → i < length named → answered_literal (get_or named i c) ≡ answered_literal (get_or answers i b)) →
    answered_literals named ≡ answered_literals answers
same_literals [] [] count each = refl
same_literals [] (c ∷ named) count each = absurd (omega arith)
same_literals (b ∷ answers) [] count each = absurd (omega arith)
same_literals (b ∷ answers) (c ∷ named) count each =
    ap (λ (ls : List Literal). ls ++ answered_literals named) (each 0 b c (omega arith))
    ∙ ap (λ (ls : List Literal). answered_literal b ++ ls)
    (same_literals answers named (omega arith) (λ i d e short. each (suc i) d e (omega arith)))

module _ (p : ProblemValue) (values : List ℤ) (answers named : List Bound) (are : AreNamed p values answers named) where
  pub named_literals : answered_literals named ≡ answered_literals answers
  named_literals = same_literals answers named are.count (λ i b c short.
      named_literal (get_or p.costs i no_row) (get_or values i (pos 0)) (answered_literals answers) (get_or answers i b)
      (get_or named i c) (are.each i no_row (pos 0) b c short))
    where
      no_row : CostRowValue
      no_row = record { terms = []; offset = pos 0 }

-- no answer is that the objective never costs so much
abbrev pub AllPossible : List Bound → Type 0
AllPossible answers = (i : ℕ) (b : Bound) → i < length answers → get_or answers i b ≡ Never → ⊥

pub named_answers_at : (p : ProblemValue) (lines : List Line) (x : List Bool) (answers named : List Bound) →
    AllPossible answers → AreAnswers p lines (problem_costs p x) answers →
    AreNamed p (problem_costs p x) answers named → AreAnswersAt p lines x named
named_answers_at p lines x answers named possible are how s reached =
    let sizes : length (problem_costs p x) ≡ length p.costs = length-map p.costs (row_cost x) in
    let count = are.count in
    let again = how.count in
    let same = named_literals p (problem_costs p x) answers named how in
    zip_at (IsAnswerAt p lines s x (answered_literals named)) p.costs named (again ∙ count ∙ sizes)
    (λ k d e short.
    let value : get_or (problem_costs p x) k (pos 0) ≡ row_cost x (get_or p.costs k d) =
    get_or-map (row_cost x) p.costs k d (pos 0) short in
    subst (λ (ls : List Literal). IsAnswerAt p lines s x ls (get_or p.costs k d) (get_or named k e)) (sym same)
    (named_at p lines s x (answered_literals answers) (get_or p.costs k d) (get_or answers k e) (get_or named k e) reached
    (possible k e (omega arith))
    (subst (λ (v : ℤ). IsCostBound p lines (get_or p.costs k d) v (get_or answers k e)) value
    (are.each k d (pos 0) e (omega arith)))
    (subst (λ (v : ℤ). IsNamed (get_or p.costs k d) v (answered_literals answers) (get_or answers k e) (get_or named k e))
    value (how.each k d (pos 0) e e (omega arith)))))

-- the row of a literal that was answered
pub record HasRow (p : ProblemValue) (lines : List Line) (s : StateValue) (x : List Bool) (rows : List CostRowValue)
    (l : Literal) : Type 0 where
  pub row : CostRowValue
  pub there : Contains rows row
  pub id : ℕ
  pub bound : IsOverAt p lines row (row_cost x row) l id s

module _ (p : ProblemValue) (lines : List Line) (s : StateValue) (x : List Bool) (lits : List Literal) where
  later : (r : CostRowValue) (rows : List CostRowValue) (l : Literal) → HasRow p lines s x rows l →
      HasRow p lines s x (r ∷ rows) l
  later r rows l has =
      let there = Contains-cons r has.row rows has.there in
      record { row = has.row; there = there; id = has.id; bound = has.bound }

  pub row_of : (rows : List CostRowValue) (answers : List Bound) (l : Literal) →
      AllZip (IsAnswerAt p lines s x lits) rows answers → Contains (answered_literals answers) l →
      HasRow p lines s x rows l
  row_of [] [] l zip has = absurd (Contains-nil l has)
  row_of [] (b ∷ bs) l zip has = absurd zip
  row_of (r ∷ rows) [] l zip has = absurd zip
  row_of (r ∷ rows) (Always id ∷ bs) l zip has = later r rows l (row_of rows bs l zip.1 has)
  row_of (r ∷ rows) (Never ∷ bs) l zip has = absurd zip.0
  row_of (r ∷ rows) (At m id ∷ bs) l zip has = elim (Contains-cons_cases m l (answered_literals bs) has) [
    | inl same ↦ (
        let bound = subst (λ (k : Literal). IsOverAt p lines r (row_cost x r) k id s) same zip.0 in
        record { row = r; there = Contains-head r rows; id = id; bound = bound })
    | inr rest ↦ later r rows l (row_of rows bs l zip.1 rest)
  ]
