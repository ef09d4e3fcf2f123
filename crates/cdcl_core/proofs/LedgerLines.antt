-- What a ledger tells stays so, from line to line.
use Rattle.std.proofs.Common.{◌≡◌, ℕ, zero, suc, ◌+◌, ◌<◌, ◌≤◌, Bool, true, false, cond, Option, Some, None, List, [], ◌∷◌, ◌++◌, length, All, AllPairs, refl, arith, add-zero, append_assoc, sym, ap, ◌∙◌, subst}
use Rattle.std.specs.Prelude.{Contains, IfSome, IsTrue, nat_lt}
use Rattle.std.specs.List.{count_by}
use Rattle.std.proofs.lemmas.List.Elements.{All-contains, All-push, All-weaker}
use Rattle.std.proofs.lemmas.List.Quantifiers.{all_pairs_push}
use Rattle.std.proofs.lemmas.List.Sums.{sum_by_push}
use Rattle.pb_lin.specs.Constraint.{ConstraintValue}
use Rattle.pb_lin.specs.Problem.{ProblemValue}
use Rattle.hint_rup.specs.declared.hint.Hint.{Hint}
use Rattle.proof_laws.specs.State.{StateValue, IsState, Fits}
use Rattle.proof_laws.specs.Replay.{IsReplay}
use Rattle.proof_laws.specs.Earned.{IsLearnedId, is_reduce}
use Rattle.proof_laws.specs.declared.line.Line.{Line}
use Rattle.proof_laws.specs.declared.line.Line.TheVariants.{Pol, Rup, Learn, Def, Red, Dom, Sol, Del, Reduce, End}
use Rattle.cdcl_core.specs.Ledgers.{LedgerValue, IsLedger, IsPart, ledger_after, noted, number_after, unknown_number, with_id, with_ids}

-- ---- ids

-- what was learned stays learned
learned_later : (p : ProblemValue) (lines : List Line) (line : Line) (id : ℕ) → IsLearnedId p lines id → IsLearnedId p (lines ++ line ∷ []) id
learned_later p lines line id (before, goal, hints, after, s, splits, replay, is) =
    (before, goal, hints, after ++ line ∷ [], s, ap (λ (ls : List Line). ls ++ line ∷ []) splits ∙ append_assoc before (Learn goal hints ∷ after) (line ∷ []), replay, is)

all_learned_later : (p : ProblemValue) (lines : List Line) (line : Line) (ids : List ℕ) → All (IsLearnedId p lines) ids → All (IsLearnedId p (lines ++ line ∷ [])) ids
all_learned_later p lines line ids all = All-weaker (IsLearnedId p lines) (IsLearnedId p (lines ++ line ∷ [])) (learned_later p lines line) ids all

-- the rows' ids are below the next one
pub rows_below : (p : ProblemValue) (s : StateValue) → Fits p s → IsState s → length p.rows < s.next_id
rows_below p s fits is = last_row (length p.rows) refl
  where
    last_row : (n : ℕ) → length p.rows ≡ n → length p.rows < s.next_id
    last_row zero none = let first = is.first_id in omega (arith, first, none)
    last_row (suc k) some =
        let row = fits.rows k (record { terms = []; degree = 0 }) (omega (arith, some)) in
        let range = is.ids (k + 1) _ row in
        omega (arith, range.1, some)

-- ---- the number of reductions

-- 1 for a reduction, and else 0
abbrev reduces : Line → ℕ
reduces line = cond (is_reduce line) 1 0

abbrev IsNumber : Option ℕ → ℕ → Type 0
IsNumber o k = IfSome o (λ n. k ≡ n)

same_number : (o : Option ℕ) (k : ℕ) → IsNumber o k → IsNumber o (k + 0)
same_number o k is = subst (IsNumber o) (sym (add-zero k)) is

more_number : (b : Bool) (n k : ℕ) → k ≡ n → IsNumber (cond b (Some (n + 1)) None) (k + 1)
more_number true n k is = ap (λ (m : ℕ). m + 1) is
more_number false n k is = tt

next_number : (o : Option ℕ) (k : ℕ) → IsNumber o k → IsNumber (number_after o) (k + 1)
next_number None k is = tt
next_number (Some n) k is = more_number (nat_lt n 40) n k is

noted_number : (o : Option ℕ) (k : ℕ) (line : Line) → IsNumber o k → IsNumber (noted o line) (k + reduces line)
noted_number o k (Pol tokens) is = same_number o k is
noted_number o k (Rup goal hints) is = same_number o k is
noted_number o k (Learn goal hints) is = same_number o k is
noted_number o k (Def var sum) is = same_number o k is
noted_number o k (Red goal w proofs) is = same_number o k is
noted_number o k (Dom goal w proofs) is = same_number o k is
noted_number o k (Sol model cut ids) is = same_number o k is
noted_number o k (Del ids) is = same_number o k is
noted_number o k (Reduce ids) is = next_number o k is
noted_number o k (End id) is = same_number o k is

-- ---- after a line

pub ledger_added : (p : ProblemValue) (lines new : List Line) (line : Line) (next : ℕ) (ledger : LedgerValue) → new ≡ lines ++ line ∷ [] → IsLedger p lines next ledger → IsLedger p new next (ledger_after ledger line)
ledger_added p lines new line next ledger added is = subst (λ (ls : List Line). IsLedger p ls next (ledger_after ledger line)) (sym added) (record {
  learned = all_learned_later p lines line ledger.ids is.learned;
  between = is.between;
  rising = is.rising;
  counted = subst (IsNumber (noted ledger.reductions line)) (sym (sum_by_push reduces lines line)) (noted_number ledger.reductions (count_by is_reduce lines) line is.counted);
})

-- where more is taken up
pub ledger_later : (p : ProblemValue) (lines : List Line) (next more : ℕ) (ledger : LedgerValue) → next ≤ more → IsLedger p lines next ledger → IsLedger p lines more ledger
ledger_later p lines next more ledger later is = record {
  learned = is.learned;
  between = All-weaker (λ (id : ℕ). (length p.rows < id) × (id < next)) (λ (id : ℕ). (length p.rows < id) × (id < more)) (λ id within. (within.0, omega (arith, within.1, later))) ledger.ids is.between;
  rising = is.rising;
  counted = is.counted;
}

-- after a learned clause
pub ledger_learned : (p : ProblemValue) (lines new : List Line) (s : StateValue) (goal : ConstraintValue) (hints : List Hint) (next id : ℕ) (ledger : LedgerValue)
    → new ≡ lines ++ Learn goal hints ∷ [] → IsReplay p lines s → Fits p s → IsState s → next ≡ s.next_id → id ≡ s.next_id → IsLedger p lines next ledger → IsLedger p new (id + 1) (with_id ledger id)
ledger_learned p lines new s goal hints next id ledger added replay fits is all named old =
    let after = ledger_added p lines new (Learn goal hints) next ledger added old in
    let above = rows_below p s fits is in
    record {
      learned = All-push (IsLearnedId p new) ledger.ids id after.learned (lines, goal, hints, [], s, added, replay, named);
      between = All-push (λ (i : ℕ). (length p.rows < i) × (i < id + 1)) ledger.ids id (ledger_later p lines next (id + 1) ledger (omega (arith, all, named)) old).between (omega (arith, above, named), omega arith);
      rising = all_pairs_push (λ i j. i < j) ledger.ids id old.rising (λ k d less. let low = (old.between k d less).1 in omega (arith, low, all, named));
      counted = after.counted;
    }

-- ---- fewer clauses

pub part_all : (P : ℕ → Type 0) (part whole : List ℕ) → IsPart part whole → All P whole → All P part
part_all P part whole is all = All-weaker (Contains whole) P (λ id among. All-contains P whole id all among) part is.among

pub ledger_part : (p : ProblemValue) (lines : List Line) (next : ℕ) (ledger : LedgerValue) (ids : List ℕ) → IsPart ids ledger.ids → IsLedger p lines next ledger → IsLedger p lines next (with_ids ledger ids)
ledger_part p lines next ledger ids part is = record {
  learned = part_all (IsLearnedId p lines) ids ledger.ids part is.learned;
  between = part_all (λ (id : ℕ). (length p.rows < id) × (id < next)) ids ledger.ids part is.between;
  rising = part.rising is.rising;
  counted = is.counted;
}

pub ledger_stopped : (p : ProblemValue) (lines : List Line) (next : ℕ) (ledger : LedgerValue) → IsLedger p lines next ledger → IsLedger p lines next (unknown_number ledger)
ledger_stopped p lines next ledger is = record {
  learned = is.learned;
  between = is.between;
  rising = is.rising;
  counted = tt;
}

-- ---- before any clause

none_all : (P : ℕ → Type 0) (ids : List ℕ) → ids ≡ [] → All P ids
none_all P ids none = subst (All P) (sym none) (λ k d less. absurd (let below : k < 0 = less in omega arith))

none_rising : (ids : List ℕ) → ids ≡ [] → AllPairs (λ i j. i < j) ids
none_rising ids none = subst (AllPairs (λ i j. i < j)) (sym none) (λ i j d less within. absurd (let below : j < 0 = within in omega arith))

first_number : (o : Option ℕ) (b : Bool) (k : ℕ) → IfSome o (λ n. IsTrue b × (n ≡ 0)) → (IsTrue b → k ≡ 0) → IsNumber o k
first_number None b k told none = tt
first_number (Some n) b k told none = none told.0 ∙ sym told.1

pub ledger_nothing : (p : ProblemValue) (lines : List Line) (ledger : LedgerValue) (begins : Bool) → ledger.ids ≡ [] → IfSome ledger.reductions (λ n. IsTrue begins × (n ≡ 0))
    → (IsTrue begins → count_by is_reduce lines ≡ 0) → IsLedger p lines 1 ledger
ledger_nothing p lines ledger begins none told first = record {
  learned = none_all (IsLearnedId p lines) ledger.ids none;
  between = none_all (λ (id : ℕ). (length p.rows < id) × (id < 1)) ledger.ids none;
  rising = none_rising ledger.ids none;
  counted = first_number ledger.reductions begins (count_by is_reduce lines) told first;
}
