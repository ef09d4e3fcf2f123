-- The line that ends a proof: it may be added, the proof has ended after it, and it logs nothing.
use Rattle.std.proofs.Common.{◌≡◌, ◌⊎◌, inl, inr, ℕ, ◌^◌, Bool, true, false, not, Option, None, Some, List, [], ◌∷◌, ◌++◌, ap, append-nil, append_assoc, refl, sym, subst, ◌∙◌, arith}
use Rattle.std.specs.Prelude.{nat_lt}
use Rattle.std.specs.FinMap.{get}
use Rattle.std.proofs.lemmas.Grind.{flat_map-append}
use Rattle.pb_lin.specs.Constraint.{ConstraintValue}
use Rattle.pb_lin.specs.Problem.{ProblemValue}
use Rattle.proof_laws.specs.State.{StateValue}
use Rattle.proof_laws.specs.Steps.{with_end}
use Rattle.proof_laws.specs.Refusal.{FirstOf, IsRuleFault, end_fault, fault_unless, range_fault, written}
use Rattle.proof_laws.specs.Replay.{IsReplay}
use Rattle.proof_laws.specs.declared.line.Line.{Line}
use Rattle.proof_laws.specs.declared.line.Line.TheVariants.{End}
use Rattle.proof_laws.specs.declared.why.Why.{Why}
use Rattle.proof_laws.specs.declared.why.Why.TheVariants.{AfterEnd, LogLong}
use Rattle.proof_laws.proofs.Replays.{replay_before, replay_once}
use Rattle.proof_rules.specs.Recording.{Snapshot, MayBeAdded}
use Rattle.sum_outputs.specs.Adding.{IsReady, IsReached}
use Rattle.sum_outputs.proofs.LaterStates.{around_twice}
use Rattle.search_base.specs.Boards.{BoardValue, IsBoard}
use Rattle.search_base.specs.Good.{GoesOn}
use Rattle.search_base.specs.Logged.{AddsTurnLines, LogsNone, logged, logged_by}
use Rattle.search_base.specs.Turns.{IsEndLine}
use Rattle.certified_front.specs.Certified.{HasEnded}
use Rattle.certified_front.specs.Stopping.{AddsSearch, EndsBy, StaysWith}
use Rattle.search_base.proofs.TurnLines.{both_lines, no_line}

-- "0 >= 1"
abbrev contradiction : ConstraintValue
contradiction = record { terms = []; degree = 1 }

-- ---- before the line

end_rule : (p : ProblemValue) (s : StateValue) (id : ℕ) → get s.live id ≡ Some contradiction
    → IsRuleFault p s (End id) None
end_rule p s id live = sym (ap (λ (o : Option ConstraintValue). end_fault o id) live)

-- the conditions of the line, by whether the proof has ended and whether there is room for a line
abbrev IsEndFault : ProblemValue → StateValue → ℕ → Bool → Bool → Option Why → Type 0
IsEndFault p s id ended short = FirstOf (fault_unless (not ended) AfterEnd)
    (FirstOf (fault_unless short LogLong) (FirstOf (range_fault s.vars (written (End id))) (IsRuleFault p s (End id))))

-- only the number of lines may stand against it
end_follows : (p : ProblemValue) (s : StateValue) (id : ℕ) → get s.live id ≡ Some contradiction → (ended short : Bool)
    → ended ≡ false → IsEndFault p s id ended short None ⊎ IsEndFault p s id ended short (Some LogLong)
end_follows p s id live true short running = cc
end_follows p s id live false true running = inl (end_rule p s id live)
end_follows p s id live false false running = inr refl

may_end : (a : Snapshot) (id : ℕ) → IsReady a → IsEndLine a.problem a.lines id
    → MayBeAdded a.problem a.lines (End id)
may_end a id ready line s reached =
    let running : s.ended ≡ false =
    subst (λ (t : StateValue). t.ended ≡ false)
    (replay_once a.problem a.lines ready.state s ready.reached reached) ready.unended in
    end_follows a.problem s id (line s reached) s.ended (nat_lt s.lines (2 ^ 61)) running

-- which line it is
end_line : (a : Snapshot) (line : Line) → EndsBy a line
    → (id : ℕ) × (line ≡ End id) × IsEndLine a.problem a.lines id
end_line a (End id) is = (id, refl, is)
end_line a line is = absurd is

pub may_end_by : (a : Snapshot) (line : Line) → IsReady a → EndsBy a line → MayBeAdded a.problem a.lines line
may_end_by a line ready is =
    let end = end_line a line is in
    subst (λ (l : Line). MayBeAdded a.problem a.lines l) (sym end.1) (may_end a end.0 ready end.2)

-- ---- after it

module _ (a b : Snapshot) (line : Line) (is : EndsBy a line) (added : b.lines ≡ a.lines ++ line ∷ []) where
  end_added : b.lines ≡ a.lines ++ End (end_line a line is).0 ∷ []
  end_added = added ∙ ap (λ (l : Line). a.lines ++ l ∷ []) (end_line a line is).1

  pub ended_after : (s t : StateValue) → b.problem ≡ a.problem → IsReached a s → IsReached b t
      → HasEnded b.problem b.lines
  ended_after s t problem before after =
      let id = (end_line a line is).0 in
      let there : IsReplay a.problem (a.lines ++ End id ∷ []) t =
      subst (λ (ls : List Line). IsReplay a.problem ls t) end_added
      (subst (λ (p : ProblemValue). IsReplay p b.lines t) problem after) in
      let next = replay_before a.problem a.lines (End id) s t before there in
      let made : t ≡ with_end s = next.makes in
      (t, after, ap (λ (u : StateValue). u.ended) made)

  pub end_logs_none : LogsNone a.problem a.lines b.lines
  end_logs_none =
      let p = a.problem in
      let id = (end_line a line is).0 in
      ap (logged p) end_added
      ∙ flat_map-append (logged_by p) a.lines (End id ∷ [])
      ∙ append-nil (logged p a.lines)

-- what is logged stays on the board
pub still_board : (p q : ProblemValue) (old new : List Line) (board : BoardValue) → q ≡ p → LogsNone p old new
    → IsBoard board (logged p old) → IsBoard board (logged q new)
still_board p q old new board problem none is =
    subst (λ (r : ProblemValue). IsBoard board (logged r new)) (sym problem) (subst (IsBoard board) (sym none) is)

-- what stays after turns still does after the last line
pub stays_after : (a m b : Snapshot) → GoesOn a m → StaysWith m b → StaysWith a b
stays_after a m b turns ended = record {
  problem = ended.problem ∙ turns.problem;
  limit = ended.limit ∙ turns.limit;
  later = let one = turns.later in let other = ended.later in omega arith;
  around = around_twice a.around m.around b.around turns.around ended.around;
  lines = record {
    before = ended.lines.before;
    turns = both_lines a.problem a.lines m.lines ended.lines.before turns.lines
        (subst (λ (p : ProblemValue). AddsTurnLines p m.lines ended.lines.before) turns.problem ended.lines.turns);
    last = ended.lines.last;
  };
}

-- turns alone
pub stays_by_turns : (a b : Snapshot) → GoesOn a b → StaysWith a b
stays_by_turns a b turns = record {
  problem = turns.problem;
  limit = turns.limit;
  later = turns.later;
  around = turns.around;
  lines = record { before = b.lines; turns = turns.lines; last = inl refl };
}

-- nothing, or the end alone
pub no_search : (p : ProblemValue) (old new : List Line) → new ≡ old → AddsSearch p old new
no_search p old new same = record { before = old; turns = no_line p old; last = inl same }

pub end_search : (a : Snapshot) (new : List Line) (line : Line) → EndsBy a line → new ≡ a.lines ++ line ∷ []
    → AddsSearch a.problem a.lines new
end_search a new line is added = record {
  before = a.lines;
  turns = no_line a.problem a.lines;
  last = let end = end_line a line is in inr (end.0, added ∙ ap (λ (l : Line). a.lines ++ l ∷ []) end.1);
}

begins_by : (old before new : List Line) (more : List Line) → before ≡ old ++ more
    → (new ≡ before) ⊎ ((id : ℕ) × (new ≡ before ++ End id ∷ [])) → (rest : List Line) × (new ≡ old ++ rest)
begins_by old before new more is (inl same) = (more, same ∙ is)
begins_by old before new more is (inr end) =
    (more ++ End end.0 ∷ [], end.1 ∙ ap (λ (ls : List Line). ls ++ End end.0 ∷ []) is ∙ append_assoc old more (End end.0 ∷ []))

-- the new lines begin with the old ones
pub search_begins : (p : ProblemValue) (old new : List Line) → AddsSearch p old new
    → (more : List Line) × (new ≡ old ++ more)
search_begins p old new adds = begins_by old adds.before new adds.turns.more adds.turns.is adds.last
