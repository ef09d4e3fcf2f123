use Rattle.std.proofs.Common.{◌≡◌, ◌+◌, ◌≤◌, ◌^◌}
use Rattle.std.specs.Prelude.{option_map}
use Rattle.mopb_reader.specs.Cuts.{rest_size, BeginsNoBlank}
use Rattle.mopb_reader.specs.Streams.{numbered_from, lines_after}
use Rattle.mopb_reader.proofs.tokens.Tokens.next.Given as goal

abbrev pub invariant-loop-self : goal.invariant-loop-self
invariant-loop-self l = record {
  left : numbered_from l.self-inside.number l.self-inside.line.now (option_map (λ r. r.now) l.self-inside.rest) ≡ l.fn.self.left;
  last : l.self-inside.number + lines_after (option_map (λ r. r.now) l.self-inside.rest) ≡ l.fn.self.last;
  at_token : BeginsNoBlank l.self-inside.line.now;
  within : l.self-inside.number + rest_size (option_map (λ r. r.now) l.self-inside.rest) ≤ 2 ^ 32;
}

abbrev pub decreases-loop-self : goal.decreases-loop-self
decreases-loop-self l = rest_size (option_map (λ r. r.now) l.self-inside.rest)
