use Rattle.std.proofs.Common.{◌≡◌, ◌≤◌, ◌<◌, ◌+◌, ℕ, take, length, slice_index_or, List, Bool}
use Rattle.scut_base.specs.Literal.{Literal}
use Rattle.pb_lin.specs.Constraint.{total, value, TermsUpTo}
use Rattle.pb_lin.specs.Constraint.{IsMerged}
use Rattle.pb_lin.proofs.normal.merged.Given as goal

abbrev pub invariant-loop-term : goal.invariant-loop-term
invariant-loop-term l = record {
  value : (a : List Bool) → value a l.merged + l.cancelled ≡ value a (take l.term-index l.terms);
  total : total l.merged + l.cancelled ≤ total (take l.term-index l.terms);
  merged : IsMerged l.merged;
  upto : (k : ℕ) (d : Literal × ℕ) → l.term-index ≤ k → k < length l.terms → TermsUpTo (slice_index_or l.terms k d).0.var l.merged;
}
