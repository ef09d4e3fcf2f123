-- Laws of counts of faults where one number counts them all.
use Rattle.std.specs.Prelude.{◌≡◌, ℕ, ◌≤◌, List, Result, IsErrOf}
use Rattle.std.specs.FinMap.{get-empty}
use Rattle.std.proofs.Common.{ap, arith}
use Rattle.scut_base.specs.declared.shelf.ShelfCall.{ShelfCall}
use Rattle.scut_base.specs.declared.shelf.ShelfFault.{ShelfFault}
use Rattle.scut_base.specs.declared.shelf.ShelfFault.TheVariants.{Failed}
use Rattle.scut_base.specs.Faults.{pair_cmp, or_else, count, one_more, Rose, HasCause, plain}

pub count-plain : (n : ℕ) (call : ShelfCall) (name : List ℕ) → count (plain n) call name ≡ n
unfolding count plain
count-plain n call name = ap (λ found. or_else found n) (get-empty {X = ℕ} pair_cmp (call, name))

-- a cause from one number that counts all faults
pub plain_cause : {T : Type 0} (call : ShelfCall) (name : List ℕ) (before now : ℕ) (result : Result T ShelfFault) → before ≤ now → (IsErrOf result Failed → Rose before now) → HasCause call name (plain before) (plain now) result
plain_cause call name before now result later failed = record {
  later = λ c n. rw (count-plain before c n, count-plain now c n) later;
  failed = λ e. rw (count-plain before call name, count-plain now call name) (failed e);
}

-- a cause from a count that has risen by one
pub risen_cause : {T : Type 0} (call : ShelfCall) (name : List ℕ) (before now : ℕ) (result : Result T ShelfFault) → before ≤ now → now ≡ one_more before → HasCause call name (plain before) (plain now) result
risen_cause call name before now result later is = plain_cause call name before now result later (λ _. omega arith)
