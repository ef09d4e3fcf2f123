use Rattle.std.specs.Prelude.{◌≡◌, ℕ, List}
use Rattle.log_checker.specs.Judging.{left}
use Rattle.command_trim.specs.Keeping.{IsKeeping, kept_by}
use Rattle.command_trim.proofs.keeping.Keeper.keep_lines.Given as goal

abbrev pub invariant-lines : goal.invariant-lines
invariant-lines l = record {
  kept : (bytes : List ℕ) → IsKeeping l.initial.self bytes → IsKeeping l.self bytes;
  by : kept_by l.self ≡ kept_by l.initial.self;
}

abbrev pub decreases-lines : goal.decreases-lines
decreases-lines l = left l.self.reader
