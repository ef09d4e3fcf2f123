use Rattle.std.proofs.Common.{◌≡◌, ◌≤◌, take}
use Rattle.proof_text.specs.LogText.{newlines}
use Rattle.proof_text.proofs.line_feeds.count_line_feeds.Given as goal

abbrev pub invariant-loop-byte : goal.invariant-loop-byte
invariant-loop-byte l = (l.count ≤ l.byte-index) × (l.count ≡ newlines (take l.byte-index l.bytes))
