use Rattle.std.proofs.Common.{◌↔◌, ℕ, ◌<◌, ◌≤◌, length, take, slice_index_or}
use Rattle.std.specs.Prelude.{All, AllPairs, Contains}
use Rattle.scut_base.specs.Literal.{Literal}
use Rattle.search_base.proofs.cut.each_once.Given as goal

abbrev pub invariant-loop-lit : goal.invariant-loop-lit
invariant-loop-lit l = record {
  rising : AllPairs (λ x y. x.var < y.var) l.distinct;
  upto : (k : ℕ) (d : Literal) → l.lit-index ≤ k → k < length l.sorted →
      All (λ x. x.var ≤ (slice_index_or l.sorted k d).var) l.distinct;
  same : (x : Literal) → Contains l.distinct x ↔ Contains (take l.lit-index l.sorted) x;
}
