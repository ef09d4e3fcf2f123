-- What holds from turn to turn.
use Rattle.std.proofs.Common.{◌≡◌, ◌≢◌, ◌⊎◌, ℕ, zero, suc, ◌-◌, ◌<◌, ◌≤◌, max, Bool, true, false, not, List, [], ◌∷◌, ◌++◌, length, refl, arith, sym, ap, ◌∙◌, subst, inl, inr, ⊎_elim}
use Rattle.std.specs.Prelude.{All, Contains, Option, Some, None, Result, Ok, Err, IfOk, slice_get}
use Rattle.std.specs.FinMap.{get}
use Rattle.std.proofs.lemmas.Bool.{cases_lt}
use Rattle.std.proofs.lemmas.Option.{none-some, same_Some}
use Rattle.scut_base.specs.Literal.{Literal}
use Rattle.scut_base.specs.Assignment.{partial_truth}
use Rattle.proof_rules.specs.Recording.{Snapshot}
use Rattle.pb_lin.specs.Problem.{ProblemValue}
use Rattle.pb_lin.specs.LineMap.{LineMap}
use Rattle.proof_laws.specs.declared.line.Line.{Line}
use Rattle.clause_prop.specs.Steps.{TrailValue, cut, partial, last_level}
use Rattle.clause_prop.specs.Propagating.{Extends}
use Rattle.clause_prop.specs.declared.step.Step.{Step}
use Rattle.cdcl_trail.specs.SearchTrail.{IsSearchTrail, IsUndecided}
use Rattle.cdcl_trail.specs.Rank.{rank}
use Rattle.cdcl_trail.proofs.Moves.{cut_of_longer, cut_of_cut}
use Rattle.cdcl_trail.proofs.Stores.{never_decided}
use Rattle.cdcl_trail.proofs.Places.{all_places, at_front}
use Rattle.cdcl_trail.proofs.Pushes.{last_top}
use Rattle.cdcl_laws.proofs.Stored.{normal_law}
use Rattle.proof_laws.specs.State.{StateValue, IsState, Fits}
use Rattle.proof_laws.specs.Replay.{IsReplay}
use Rattle.proof_laws.proofs.Replays.{replay_once}
use Rattle.oracle.specs.Solving.{Reaches, IsOrderly}
use Rattle.cdcl_laws.specs.StoredLines.{IsStored}
use Rattle.cdcl_state.specs.Searching.{SearchValue, IsBackTo}
use Rattle.oracle.specs.declared.answer.Answer.{Answer}
use Rattle.oracle.specs.declared.fault.OracleFault.{OracleFault}
use Rattle.oracle.specs.declared.fault.OracleFault.TheVariants.{Spent, Failed, Full, NoMemory}
use Rattle.cdcl_core.specs.declared.progress.Progress.{Progress}
use Rattle.cdcl_core.specs.declared.progress.Progress.TheVariants.{Answered, Learned, Decided}
use Rattle.cdcl_laws.specs.SearchLines.{AddsLearned}
use Rattle.cdcl_core.specs.Ledgers.{LedgerValue, IsLedger, left}
use Rattle.cdcl_core.specs.Work.{SolverValue, Ends, IsDone, IsHeld, IsLed, IsNearer, IsOn, IsProgress, IsTakenUp, IsWorking}
use Rattle.cdcl_core.proofs.LedgerLines.{ledger_later}

-- where no step is above level 0, nothing is decided
pub undecided_at_zero : (store : LineMap) (t : TrailValue) → IsSearchTrail store t → last_level t.steps ≡ 0 → IsUndecided t
undecided_at_zero store t search ground = all_places (λ (s : Step). s.reason ≢ 0) t.steps (λ p s at decided.
    let above = (search.decided p s at decided).positive in
    let top = last_top t.steps search.rising p s at in
    omega (arith, above, top, ground))

-- a trail that was cut back to level 0 has no decision
pub undecided_back : (store : LineMap) (old t : TrailValue) → IsSearchTrail store t → IsBackTo 0 old t → IsUndecided t
undecided_back store old t search back = all_places (λ (s : Step). s.reason ≢ 0) t.steps (λ p s at decided.
    let above = (search.decided p s at decided).positive in
    let was = at_front old.steps back.keep p s (ap (λ (u : TrailValue). slice_get u.steps p) (sym back.is) ∙ at) in
    let low = back.up_to.low p s was.0 was.1 in
    omega (arith, above, low))

in_front : (xs ys : List Step) (k : ℕ) (x : Step) → k < length xs → slice_get (xs ++ ys) k ≡ Some x → slice_get xs k ≡ Some x
in_front [] ys k x less there = absurd (let h : k < 0 = less in omega arith)
in_front (y ∷ xs) ys zero x less there = there
in_front (y ∷ xs) ys (suc k) x less there = in_front xs ys k x (omega arith) there

slice_get-append_right : (xs ys : List Step) (k : ℕ) (x : Step) → length xs ≤ k → slice_get (xs ++ ys) k ≡ Some x → slice_get ys (k - length xs) ≡ Some x
slice_get-append_right [] ys k x past there = ap (slice_get ys) (let e : k - 0 ≡ k = omega arith in e) ∙ there
slice_get-append_right (y ∷ xs) ys zero x past there = absurd (let h : suc (length xs) ≤ zero = past in omega arith)
slice_get-append_right (y ∷ xs) ys (suc k) x past there = ap (slice_get ys) (let e : suc k - suc (length xs) ≡ k - length xs = omega arith in e) ∙ slice_get-append_right xs ys k x (let h : suc (length xs) ≤ suc k = past in omega arith) there

at_split : (xs : List Step) (k : ℕ) (x : Step) → slice_get xs k ≡ Some x → (first : List Step) × (after : List Step) × (xs ≡ first ++ (x ∷ after))
at_split [] k x there = absurd (none-some x there)
at_split (y ∷ xs) zero x there = ([], xs, ap (λ (z : Step). z ∷ xs) (same_Some y x there))
at_split (y ∷ xs) (suc k) x there = let rest = at_split xs k x there in (y ∷ rest.0, rest.1, ap (λ (zs : List Step). y ∷ zs) rest.2)

longer : (p : ProblemValue) (next : ℕ) (search : SearchValue) (state : StateValue) → IsState state → IsStored p state next search.store → (assumptions : List Literal) (new : TrailValue)
    → Extends search.store search.trail new → IsLed assumptions search.trail → IsLed assumptions new
longer p next search state is stored assumptions new extends led q s at decided =
    let same : new ≡ record { vars = search.trail.vars; steps = search.trail.steps ++ extends.more } =
    ap (λ (n : ℕ). record { vars = n; steps = new.steps }) extends.vars ∙ ap (λ (ss : List Step). record { vars = search.trail.vars; steps = ss }) extends.is in
    let there : slice_get (search.trail.steps ++ extends.more) q ≡ Some s = ap (λ (ss : List Step). slice_get ss q) (sym extends.is) ∙ at in
    ⊎_elim
    (λ (old : q < length search.trail.steps).
    let before : cut search.trail q ≡ cut new q = cut_of_longer search.trail extends.more q (omega arith) ∙ ap (λ (t : TrailValue). cut t q) (sym same) in
    ⊎_elim (λ (one : Contains assumptions s.lit). inl one)
    (λ (all : All (λ l. partial_truth (partial (cut search.trail q)) l ≡ Some true) assumptions). inr (subst (λ (t : TrailValue). All (λ l. partial_truth (partial t) l ≡ Some true) assumptions) before all))
    (led q s (in_front search.trail.steps extends.more q s old there) decided))
    (λ (more : length search.trail.steps ≤ q). absurd (never_forced more there))
    (cases_lt q (length search.trail.steps))
  where
    never_forced : length search.trail.steps ≤ q → slice_get (search.trail.steps ++ extends.more) q ≡ Some s → ⊥
    never_forced past there =
        let split = at_split extends.more (q - length search.trail.steps) s (slice_get-append_right search.trail.steps extends.more q s past there) in
        let forced = extends.forced split.0 s split.1 split.2 in
        let zero = (normal_law p state next search.store is stored).no_zero in
        none-some forced.line (sym zero ∙ ap (get search.store) (sym decided) ∙ forced.there)

-- steps that lines force leave decisions as they are
pub led_longer : {R : Type 0} (seen : R → Snapshot) (v w : SolverValue R) (assumptions : List Literal) (new : TrailValue) → v ≡ w → IsWorking seen w
    → Extends v.search.store v.search.trail new → IsLed assumptions w.search.trail → IsLed assumptions new
led_longer {R} seen v w assumptions new here working extends led =
    longer (seen v.recorder).problem v.next v.search (subst (IsWorking seen) (sym here) working).taken.held.state (subst (IsWorking seen) (sym here) working).taken.held.is
    (subst (IsWorking seen) (sym here) working).taken.held.stored assumptions new extends (subst (λ (s : SolverValue R). IsLed assumptions s.search.trail) (sym here) led)

nearer_longer : (before mid after : TrailValue) (was now : ℕ) → rank before ≤ rank mid → IsNearer mid after was now → IsNearer before after was now
nearer_longer before mid after was now kept nearer = ⊎_elim
    (λ (fewer : now < was). inl fewer)
    (λ (higher : (now ≡ was) × (rank mid < rank after)). inr (higher.0, omega (arith, kept, higher.1)))
    nearer

answers_not : (answer : Answer) → (Answered answer ≡ Learned) ⊎ (Answered answer ≡ Decided) → ⊥
answers_not answer (inl e) = cc
answers_not answer (inr e) = cc

module _ {R : Type 0} (seen : R → Snapshot) (assumptions : List Literal) where
  on_longer : (a b c : SolverValue R) → b.recorder ≡ a.recorder → b.ledger ≡ a.ledger → rank a.search.trail ≤ rank b.search.trail → b.search.trail.vars ≡ a.search.trail.vars → IsOn seen assumptions b c → IsOn seen assumptions a c
  on_longer a b c recorder ledger kept vars on = record {
    working = on.working;
    led = on.led;
    learns = subst (λ (r : R). AddsLearned (seen r).problem (seen r).lines (seen c.recorder).lines) recorder on.learns;
    nearer = nearer_longer a.search.trail b.search.trail c.search.trail (left a.ledger.reductions) (left c.ledger.reductions) kept
        (subst (λ (l : LedgerValue). IsNearer b.search.trail c.search.trail (left l.reductions) (left c.ledger.reductions)) ledger on.nearer);
    vars = on.vars ∙ vars;
  }

  one_longer : (a b c : SolverValue R) → b.recorder ≡ a.recorder → b.ledger ≡ a.ledger → rank a.search.trail ≤ rank b.search.trail → b.search.trail.vars ≡ a.search.trail.vars
      → (progress : Progress) → IsProgress seen assumptions b c progress → IsProgress seen assumptions a c progress
  one_longer a b c recorder ledger kept vars (Answered answer) is = is
  one_longer a b c recorder ledger kept vars Learned is = on_longer a b c recorder ledger kept vars is
  one_longer a b c recorder ledger kept vars Decided is = on_longer a b c recorder ledger kept vars is

  -- a turn that began with steps that lines force
  pub progress_longer : (v w b c : SolverValue R) (r : Result Progress OracleFault) → v ≡ w → IfOk r (IsProgress seen assumptions b c) → b.recorder ≡ v.recorder → b.ledger ≡ v.ledger
      → rank v.search.trail ≤ rank b.search.trail → b.search.trail.vars ≡ v.search.trail.vars → IfOk r (IsProgress seen assumptions w c)
  progress_longer v w b c (Ok progress) same is recorder ledger kept vars = subst (λ (s : SolverValue R). IsProgress seen assumptions s c progress) same (one_longer v b c recorder ledger kept vars progress is)
  progress_longer v w b c (Err fault) same is recorder ledger kept vars = is

  -- a turn without an answer goes on
  pub turn_on : (a c : SolverValue R) (progress : Progress) → IsProgress seen assumptions a c progress → (progress ≡ Learned) ⊎ (progress ≡ Decided) → IsOn seen assumptions a c
  turn_on a c (Answered answer) is other = absurd (answers_not answer other)
  turn_on a c Learned is other = is
  turn_on a c Decided is other = is

-- a cut leaves decisions that stay as they are
pub led_back : (level : ℕ) (old t : TrailValue) (assumptions : List Literal) → IsBackTo level old t → IsLed assumptions old → IsLed assumptions t
led_back level old t assumptions back led = subst (IsLed assumptions) (sym back.is) (λ q s at decided.
    let was = at_front old.steps back.keep q s at in
    ⊎_elim (λ (one : Contains assumptions s.lit). inl one)
    (λ (all : All (λ l. partial_truth (partial (cut old q)) l ≡ Some true) assumptions).
    inr (subst (λ (u : TrailValue). All (λ l. partial_truth (partial u) l ≡ Some true) assumptions) (cut_of_cut old back.keep q (omega (arith, was.0))) all))
    (led q s was.1 decided))

pub vars_back : (level : ℕ) (old t : TrailValue) → IsBackTo level old t → t.vars ≡ old.vars
vars_back level old t back = ap (λ (u : TrailValue). u.vars) back.is

-- where nothing is decided nobody has led
pub led_undecided : (assumptions : List Literal) (t : TrailValue) → IsUndecided t → IsLed assumptions t
led_undecided assumptions t undecided q s at decided = absurd (never_decided t q s undecided at decided)

-- what the search holds once all is taken up
pub taken_up : {R : Type 0} (seen : R → Snapshot) (a b : SolverValue R) (mid : SearchValue) (s : StateValue)
    → IsHeld seen a → Reaches (seen a.recorder).problem (seen a.recorder).lines (λ t. t.ended ≡ false) → IsReplay (seen a.recorder).problem (seen a.recorder).lines s
    → b ≡ record { recorder = a.recorder; limit = a.limit; broken = a.broken; search = b.search; next = b.next; rows = a.rows; ledger = a.ledger } → b.next ≡ s.next_id
    → mid.store ≡ a.search.store → b.search.trail ≡ mid.trail → mid.trail.vars ≡ s.vars
    → ((q : ProblemValue) → a.rows ≡ length q.rows → IsStored q s a.next mid.store → IsStored q s s.next_id b.search.store) → IsTakenUp seen b
taken_up {R} seen a b mid s held unended replay is_b next store trail vars takes = subst (IsTakenUp seen) (sym is_b) (record {
  held = record {
    state = s;
    replay = replay;
    fits = subst (Fits (seen a.recorder).problem) same held.fits;
    is = subst IsState same held.is;
    row_count = held.row_count;
    positive = subst (λ (n : ℕ). 0 < n) (sym next) (subst (λ (t : StateValue). 0 < t.next_id) same held.is.first_id);
    stored = subst (λ (n : ℕ). IsStored (seen a.recorder).problem s n b.search.store) (sym next)
        (takes (seen a.recorder).problem held.row_count (subst (IsStored (seen a.recorder).problem s a.next) (sym store) (subst (λ (t : StateValue). IsStored (seen a.recorder).problem t a.next a.search.store) same held.stored)));
    vars = omega (arith, all);
    listed = subst (λ (n : ℕ). IsLedger (seen a.recorder).problem (seen a.recorder).lines n a.ledger) (sym next)
        (subst (λ (t : StateValue). IsLedger (seen a.recorder).problem (seen a.recorder).lines t.next_id a.ledger) same (ledger_later (seen a.recorder).problem (seen a.recorder).lines a.next held.state.next_id a.ledger held.stored.within held.listed));
  };
  all = next;
  vars = all;
  unended = unended s replay;
})
  where
    same : held.state ≡ s
    same = replay_once (seen a.recorder).problem (seen a.recorder).lines held.state s held.replay replay

    all : b.search.trail.vars ≡ s.vars
    all = ap (λ (t : TrailValue). t.vars) trail ∙ vars

-- the state that is held is the one that is told
pub held_state : {R : Type 0} (seen : R → Snapshot) (v : SolverValue R) (s : StateValue) → IsHeld seen v → IsReplay (seen v.recorder).problem (seen v.recorder).lines s → (v.next ≤ s.next_id) × (v.search.trail.vars ≤ s.vars)
held_state seen v s held replay =
    let same : held.state ≡ s = replay_once (seen v.recorder).problem (seen v.recorder).lines held.state s held.replay replay in
    (subst (λ (t : StateValue). v.next ≤ t.next_id) same held.stored.within, subst (λ (t : StateValue). v.search.trail.vars ≤ t.vars) same held.vars)

-- an orderly result leaves what it should
pub orderly_done : {R : Type 0} (seen : R → Snapshot) (a b : SolverValue R) (r : Result Answer OracleFault) → IsOrderly r → Ends seen a b r → IsDone seen b
orderly_done seen a b (Ok answer) orderly ends = ends
orderly_done seen a b (Err (Spent learned)) orderly ends = ends.1
orderly_done seen a b (Err Failed) orderly ends = absurd orderly
orderly_done seen a b (Err Full) orderly ends = absurd orderly
orderly_done seen a b (Err NoMemory) orderly ends = absurd orderly

pub not_false : (b : Bool) → not b ≡ false → b ≡ true
not_false true is = refl
not_false false is = cc

pub undecided_steps : (t u : TrailValue) → u.steps ≡ t.steps → IsUndecided t → IsUndecided u
undecided_steps t u same is = subst (λ (ss : List Step). All (λ s. s.reason ≢ 0) ss) (sym same) is

pub grown_vars : (n asked back old vars : ℕ) → n ≡ max asked back → back ≡ old → asked ≡ vars → old ≤ vars → n ≡ vars
grown_vars n asked back old vars grown same told within = omega arith
