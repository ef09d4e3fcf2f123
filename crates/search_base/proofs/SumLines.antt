-- The sum of two lines: it may be recorded, and what it makes is one.
use Rattle.std.proofs.Common.{◌≡◌, ℕ, Some, [], ◌∷◌, ◌++◌, ap, sym, subst, ◌∙◌}
use Rattle.std.specs.FinMap.{get}
use Rattle.pb_lin.specs.Constraint.{ConstraintValue}
use Rattle.cutting_planes.specs.Rules.{IsSum}
use Rattle.proof_laws.specs.State.{StateValue, IsState}
use Rattle.proof_laws.specs.declared.line.Line.TheVariants.{Pol}
use Rattle.proof_laws.proofs.Replays.{replay_once}
use Rattle.proof_rules.specs.Recording.{Snapshot, IsNextId}
use Rattle.sum_outputs.specs.Adding.{IsReached, IsReady}
use Rattle.sum_outputs.specs.Laws.{MayBeRecorded}
use Rattle.sum_outputs.proofs.PolLines.{sum_may_be_added_law}
use Rattle.search_base.specs.OneBound.{CanSum, IsSumFor, sum_of}

module _ (a : Snapshot) (s : StateValue) (first second : ℕ) (ready : IsReady a) (state : IsState s)
    (reached : IsReached a s) (can : CanSum a first second) where
  -- the two lines' sum, whose line may be recorded
  abbrev pub sum_is : (r : ConstraintValue) × IsSum r (can.lines s reached state).0 (can.lines s reached state).1
      × MayBeRecorded a (sum_of first second) r
  sum_is =
      let has = can.lines s reached state in
      sum_may_be_added_law a s first second has.0 has.1 ready reached state has.2.0 has.3.0 has.4

  one_line : (u : StateValue) (k : ℕ) (c d : ConstraintValue) → IsReached a u → get u.live k ≡ Some c →
      get s.live k ≡ Some d → d ≡ c
  one_line u k c d is c_in d_in =
      let same : s ≡ u = replay_once a.problem a.lines s u reached is in
      let both : Some d ≡ Some c = sym d_in ∙ ap (λ (v : StateValue). get v.live k) same ∙ c_in in
      cc

  -- what was added is their sum
  pub sum_added : (b : Snapshot) (line : ℕ) → b.problem ≡ a.problem → b.lines ≡ a.lines ++ Pol (sum_of first second) ∷ [] →
      IsNextId a.problem a.lines line → IsSumFor a b first second line
  sum_added b line problem lines id u t c d is after c_own d_own =
      let has = can.lines s reached state in
      let c_is : has.0 ≡ c = one_line u first c has.0 is c_own.0 has.2.0 in
      let d_is : has.1 ≡ d = one_line u second d has.1 is d_own.0 has.3.0 in
      let made = sum_is.2 in (
        sum_is.0,
        made.own b t line problem lines after id,
        subst (λ (q : ConstraintValue). IsSum sum_is.0 q d) c_is
            (subst (λ (q : ConstraintValue). IsSum sum_is.0 has.0 q) d_is sum_is.1),
      )
