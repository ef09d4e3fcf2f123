use Rattle.std.proofs.Common.{◌≡◌, length, All}
use Rattle.harden.specs.Noted.{no_occurrence}
use Rattle.harden.proofs.noting.blank.Given as goal

abbrev pub invariant-loop : goal.invariant-loop
invariant-loop l = record { long : length l.table.items ≡ l.counter; blank : All (λ o. o ≡ no_occurrence) l.table.items }
