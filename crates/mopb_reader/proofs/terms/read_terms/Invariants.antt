use Rattle.std.proofs.Common.{◌≡◌, ◌<◌, ◌≤◌, ◌^◌, [], length}
use Rattle.instance.specs.Shape.{terms_magnitude}
use Rattle.mopb_reader.specs.Tokens.{plain}
use Rattle.mopb_reader.specs.FirstFault.{Kind, limit_of, Progress}
use Rattle.mopb_reader.specs.Streams.{IsSoundTaken, ahead}
use Rattle.mopb_reader.specs.Steps.{IsAhead, terms_fault}
use Rattle.mopb_reader.specs.Grammar.{TermsThen, largest_of}
use Rattle.mopb_reader.proofs.Spelling.{count_left}
use Rattle.mopb_reader.proofs.terms.read_terms.Given as goal

abbrev pub invariant-loop-limit : goal.invariant-loop-limit
invariant-loop-limit l = record {
  so_far : TermsThen (IsAhead l.next l.tokens) (ahead l.fn.first l.fn.tokens) l.items;
  none : l.items ≡ [] → l.next ≡ l.fn.first;
  fault : (kind : Kind) (p : Progress) → l.limit ≡ limit_of kind
      → terms_fault p kind l.fn.first l.fn.tokens [] ≡ terms_fault p kind l.next l.tokens l.items;
  fewer : length (plain l.tokens.left) ≤ length (plain l.fn.tokens.left);
  sound : IsSoundTaken l.next;
  sum : l.sum ≡ terms_magnitude l.items;
  small : l.sum < 2 ^ 63;
  largest : l.largest ≡ largest_of l.items;
  within : l.largest ≤ 2 ^ 24;
}

abbrev pub decreases-loop-limit : goal.decreases-loop-limit
decreases-loop-limit l = count_left l.next l.tokens
