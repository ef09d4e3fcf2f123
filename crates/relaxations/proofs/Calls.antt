-- Calls one after another keep a good state good.
use Rattle.std.proofs.Common.{◌≡◌, ◌∙◌, ℕ, false, Option, Result, Ok, Err, List, [], ◌∷◌, ap, refl, sym, subst}
use Rattle.std.specs.Prelude.{IfErr, IsErrAnd, OnOk}
use Rattle.std.proofs.lemmas.Result.{err_from_is_err_and}
use Rattle.std.specs.List.{All, AllZip}
use Rattle.std.proofs.lemmas.List.Elements.{All-nil, All-cons}
use Rattle.scut_base.specs.Faults.{Rose}
use Rattle.pb_lin.specs.CostRow.{CostRowValue, IsCostRow}
use Rattle.pb_lin.specs.Problem.{ProblemValue}
use Rattle.instance_normal.specs.NormalForm.{CostSource, IsCostRowOf}
use Rattle.proof_rules.specs.Recording.{Snapshot, KeepsRecorder}
use Rattle.proof_rules.specs.declared.recorder.RecordFault.{RecordFault}
use Rattle.proof_rules.specs.declared.recorder.RecordFault.TheVariants.{NoMemory as RecordNoMemory}
use Rattle.recording.specs.Adding.{Adds}
use Rattle.oracle.specs.Solving.{AddsSearchLines, AreEarned, HasFault, IsDerived, IsOrderly, IsWithin, fault_of_recording}
use Rattle.oracle.specs.declared.answer.Answer.{Answer}
use Rattle.oracle.specs.declared.fault.OracleFault.{OracleFault}
use Rattle.oracle.specs.declared.fault.OracleFault.TheVariants.{Spent, Failed, Full, NoMemory}
use Rattle.sum_outputs.specs.Adding.{Continues, IsFaultAt}
use Rattle.search_base.specs.Adding.{DerivingStaysGood}
use Rattle.search_base.specs.CostBounds.{FitBounds}
use Rattle.search_base.specs.Good.{GoesOn}
use Rattle.search_base.specs.Laws.{AskingStaysGood, BoundingStaysGood, TurnLinesJoin}
use Rattle.search_base.specs.Turns.{IsInOrder, IsSearchFault}
use Rattle.search_base.specs.declared.objective_bound.ObjectiveBound.{ObjectiveBound}
use Rattle.search_base.proofs.Turning.{goes_again, goes_twice, none_twice}
use Rattle.relaxations.proofs.OpeningCalls.{ended, fault_after, fault_here, oracle_goes_on, refused}
use Rattle.relaxations.specs.Telling.{IsGoodWithSome, SeeksOn, StaysGood}

-- ---- before a call

abbrev AreCostRows : List CostRowValue → Type 0
AreCostRows rows = All (λ r. IsCostRow r.terms r.offset) rows

cost_rows : (sources : List CostSource) (rows : List CostRowValue) → AllZip IsCostRowOf sources rows
    → AreCostRows rows
cost_rows [] [] zip = All-nil (λ r. IsCostRow r.terms r.offset)
cost_rows [] (r ∷ rows) zip = absurd zip
cost_rows (s ∷ sources) [] zip = absurd zip
cost_rows (s ∷ sources) (r ∷ rows) zip =
    All-cons (λ r. IsCostRow r.terms r.offset) r rows zip.0.row (cost_rows sources rows zip.1)

pub good_rows : (a : Snapshot) (asked : List ObjectiveBound) → IsGoodWithSome a asked → AreCostRows a.problem.costs
good_rows a asked (front, good) =
    subst (λ (p : ProblemValue). AreCostRows p.costs) good.problem
    (cost_rows _ front.problem.costs good.board.normal.costs)

-- ---- one call

-- bounds were asked for
pub bounds_stay_good : BoundingStaysGood → (a b : Snapshot) (old new : List ObjectiveBound)
    → Continues a b → b.broken ≡ false → FitBounds b new → StaysGood a b old new
bounds_stay_good law a b old new on whole fits front good = law a b old new front good on whole fits

module _ (law : AskingStaysGood) (a b : Snapshot) (asked : List ObjectiveBound)
    (keeps : KeepsRecorder a b) (lines : AddsSearchLines a.problem a.lines b.lines)
    (within : IsWithin a.limit a.problem b.lines) where
  -- the oracle was asked
  pub oracle_stays_good : b.broken ≡ false → AreEarned a.problem b.lines → StaysGood a b asked asked
  oracle_stays_good whole earned front good =
      let here : AreEarned b.problem b.lines =
      subst (λ (p : ProblemValue). AreEarned p b.lines) (sym keeps.problem) earned in
      law a b here.1.replays.0 asked front good here.1.replays.1 (record {
        problem = keeps.problem;
        limit = keeps.limit;
        whole = whole;
        later = keeps.later;
        around = keeps.around;
        lines = lines;
        earned = here;
        within = subst (λ (p : ProblemValue). IsWithin b.limit p b.lines) (sym keeps.problem)
            (subst (λ (n : Option ℕ). IsWithin n a.problem b.lines) (sym keeps.limit) within);
      })

  -- why it didn't answer
  abbrev WhyNot : OracleFault → Type 0
  WhyNot f = HasFault f a.limit a.problem b.lines (Rose a.faults b.faults) b.broken

  -- it spent what it may
  spent : (T : Type 0) (f : OracleFault) → (IsOrderly (Err f) → AreEarned a.problem b.lines) → WhyNot f
      → IsInOrder {T = T} (Err f) → StaysGood a b asked asked
  spent T (Spent learned) earned fault order = oracle_stays_good fault.1 (earned tt)
  spent T Failed earned fault order = absurd order
  spent T Full earned fault order = absurd order
  spent T NoMemory earned fault order = absurd order

pub stays_good_twice : (a b c : Snapshot) (old mid new : List ObjectiveBound)
    → b.problem ≡ a.problem → StaysGood a b old mid → StaysGood b c mid new → StaysGood a c old new
stays_good_twice a b c old mid new problem one other front good =
    let first = one front good in
    let second = other front first.0 in
    (second.0, none_twice a b c problem first.1 second.1)

-- ---- what a call adds

pub bounds_go_on : TurnLinesJoin → (a b : Snapshot) → Continues a b → GoesOn a b
bounds_go_on join a b on = record {
  problem = on.problem;
  limit = on.limit;
  later = on.later;
  around = on.around;
  lines = join.totalizer a b on;
}

-- ---- a call's result

pub seeks_ok : {T : Type 0} (a b : Snapshot) (old new : List ObjectiveBound) (x : T) → StaysGood a b old new
    → GoesOn a b → SeeksOn {T = T} a b old new (Ok x)
seeks_ok a b old new x good on = record { good = λ order. good; fault = tt; goes_on = on }

-- what is told after a call; nothing but memory was wanting since
pub seeks_told : {T : Type 0} (a b : Snapshot) (old new : List ObjectiveBound) (r : Result T OracleFault)
    → StaysGood a b old new → GoesOn a b → IfErr r (λ f. f ≡ NoMemory) → SeeksOn a b old new r
seeks_told a b old new (Ok x) good on fault = seeks_ok a b old new x good on
seeks_told a b old new (Err f) good on fault = record {
  good = λ order. good;
  fault = subst (λ (g : OracleFault). IsSearchFault a b g) (sym fault) tt;
  goes_on = on;
}

-- nothing was asked
pub seeks_nothing : {T : Type 0} (a : Snapshot) (asked : List ObjectiveBound) (x : T)
    → SeeksOn {T = T} a a asked asked (Ok x)
seeks_nothing a asked x = seeks_ok a a asked asked x (λ front good. (good, refl)) (goes_again a)

-- bounds were asked for
pub seeks_bounds : {T : Type 0} → BoundingStaysGood → TurnLinesJoin → (a b : Snapshot) (old new : List ObjectiveBound)
    (x : T) → Continues a b → b.broken ≡ false → FitBounds b new → SeeksOn {T = T} a b old new (Ok x)
seeks_bounds law join a b old new x on whole fits =
    seeks_ok a b old new x (bounds_stay_good law a b old new on whole fits) (bounds_go_on join a b on)

-- a fault of recording, which `?` makes one of the oracle
pub seeks_recording : {T : Type 0} (a b : Snapshot) (old new : List ObjectiveBound) (r : Result T OracleFault)
    (f : RecordFault) → IsErrAnd r (λ g. g ≡ fault_of_recording f) → IsFaultAt a b f → GoesOn a b
    → SeeksOn a b old new r
seeks_recording {T} a b old new r f is fault on =
    let p = err_from_is_err_and r is in
    subst (λ (q : Result T OracleFault). SeeksOn a b old new q) (sym (p.1 ∙ ap (λ (g : OracleFault). Err g) p.2))
    (record { good = λ order. absurd (ended T f order); fault = fault_here a b f fault; goes_on = on })

-- a want of memory
pub seeks_memory : {T : Type 0} (a b : Snapshot) (old new : List ObjectiveBound) (r : Result T OracleFault)
    → IsErrAnd r (λ f. f ≡ NoMemory) → GoesOn a b → SeeksOn a b old new r
seeks_memory a b old new r is on = seeks_recording a b old new r RecordNoMemory is tt on

pub seeks_no_memory : {T : Type 0} (a b : Snapshot) (old new : List ObjectiveBound) (r : Result T OracleFault)
    (f : OracleFault) → f ≡ NoMemory → IsErrAnd r (λ g. g ≡ f) → GoesOn a b → SeeksOn a b old new r
seeks_no_memory {T} a b old new r f none is on =
    seeks_memory a b old new r (subst (λ (h : OracleFault). IsErrAnd r (λ g. g ≡ h)) none is) on

order_same : (T U : Type 0) (f : OracleFault) → IsInOrder {T = T} (Err f) → IsInOrder {T = U} (Err f)
order_same T U (Spent learned) order = tt
order_same T U Failed order = absurd order
order_same T U Full order = absurd order
order_same T U NoMemory order = absurd order

-- a fault that `?` hands on
pub seeks_handed : {T U : Type 0} (a b : Snapshot) (old new : List ObjectiveBound) (r : Result T OracleFault)
    (f : OracleFault) → IsErrAnd r (λ g. g ≡ f) → SeeksOn {T = U} a b old new (Err f) → SeeksOn a b old new r
seeks_handed {T} {U} a b old new r f is call =
    let p = err_from_is_err_and r is in
    subst (λ (q : Result T OracleFault). SeeksOn a b old new q) (sym (p.1 ∙ ap (λ (g : OracleFault). Err g) p.2))
    (record { good = λ order. call.good (order_same T U f order); fault = call.fault; goes_on = call.goes_on })

-- a call after others, whose answer is handed on
pub seeks_after : {T : Type 0} (a b c : Snapshot) (old mid new : List ObjectiveBound) (r : Result T OracleFault)
    → StaysGood a b old mid → GoesOn a b → SeeksOn b c mid new r → SeeksOn a c old new r
seeks_after a b c old mid new r good on call = record {
  good = λ order. stays_good_twice a b c old mid new on.problem good (call.good order);
  fault = fault_after a b c r on call.fault;
  goes_on = goes_twice a b c on call.goes_on;
}

-- what a first call doesn't tell, a second one is asked
pub seeks_else : {T U : Type 0} (a b c : Snapshot) (old mid new : List ObjectiveBound) (r : Result T OracleFault)
    {x : U} → SeeksOn {T = U} a b old mid (Ok x) → SeeksOn b c mid new r → SeeksOn a c old new r
seeks_else a b c old mid new r first second =
    seeks_after a b c old mid new r (first.good tt) first.goes_on second

-- the oracle was asked and didn't answer
pub seeks_refused : {T : Type 0} (law : AskingStaysGood) (join : TurnLinesJoin) (a b : Snapshot)
    (asked : List ObjectiveBound) (keeps : KeepsRecorder a b) (lines : AddsSearchLines a.problem a.lines b.lines)
    (within : IsWithin a.limit a.problem b.lines) (r : Result T OracleFault) (f : OracleFault)
    → IsErrAnd r (λ g. g ≡ f) → (IsOrderly (Err f) → AreEarned a.problem b.lines)
    → HasFault f a.limit a.problem b.lines (Rose a.faults b.faults) b.broken → SeeksOn a b asked asked r
seeks_refused {T} law join a b asked keeps lines within r f is earned why =
    let p = err_from_is_err_and r is in
    subst (λ (q : Result T OracleFault). SeeksOn a b asked asked q) (sym (p.1 ∙ ap (λ (g : OracleFault). Err g) p.2))
    (record {
      good = spent law a b asked keeps lines within T f earned why;
      fault = refused a b keeps f why;
      goes_on = oracle_goes_on join a b keeps lines;
    })

-- the oracle was asked
pub seeks_asked : (law : AskingStaysGood) (join : TurnLinesJoin) (a b : Snapshot) (asked : List ObjectiveBound)
    (keeps : KeepsRecorder a b) (lines : AddsSearchLines a.problem a.lines b.lines)
    (within : IsWithin a.limit a.problem b.lines) (r : Result Answer OracleFault) → OnOk r (b.broken ≡ false)
    → (IsOrderly r → AreEarned a.problem b.lines)
    → IfErr r (λ f. HasFault f a.limit a.problem b.lines (Rose a.faults b.faults) b.broken) → SeeksOn a b asked asked r
seeks_asked law join a b asked keeps lines within (Ok x) whole earned fault =
    seeks_ok a b asked asked x (oracle_stays_good law a b asked keeps lines within whole (earned tt))
    (oracle_goes_on join a b keeps lines)
seeks_asked law join a b asked keeps lines within (Err f) whole earned fault = record {
  good = spent law a b asked keeps lines within Answer f earned fault;
  fault = refused a b keeps f fault;
  goes_on = oracle_goes_on join a b keeps lines;
}

-- the engine was asked
pub seeks_derived : {T : Type 0} → DerivingStaysGood → TurnLinesJoin → (a b : Snapshot) (asked : List ObjectiveBound) (x : T)
    → Adds IsDerived a b → b.broken ≡ false → SeeksOn {T = T} a b asked asked (Ok x)
seeks_derived law join a b asked x on whole = seeks_ok a b asked asked x (λ front good. law a b asked front good on whole) (record {
  problem = on.problem;
  limit = on.limit;
  later = on.later;
  around = on.around;
  lines = join.derived a b on;
})

-- the oracle was asked and answered; nothing but memory was wanting since
pub seeks_answered : {T : Type 0} (law : AskingStaysGood) (join : TurnLinesJoin) (a b : Snapshot)
    (asked : List ObjectiveBound) (keeps : KeepsRecorder a b) (lines : AddsSearchLines a.problem a.lines b.lines)
    (within : IsWithin a.limit a.problem b.lines) → b.broken ≡ false → AreEarned a.problem b.lines
    → (r : Result T OracleFault) → IfErr r (λ f. f ≡ NoMemory) → SeeksOn a b asked asked r
seeks_answered law join a b asked keeps lines within whole earned r fault = record {
  good = λ order. oracle_stays_good law a b asked keeps lines within whole earned;
  fault = by r fault;
  goes_on = oracle_goes_on join a b keeps lines;
}
  where
    by : {T : Type 0} (r : Result T OracleFault) → IfErr r (λ f. f ≡ NoMemory) → IfErr r (IsSearchFault a b)
    by (Ok x) is = tt
    by (Err f) is = subst (λ (g : OracleFault). IsSearchFault a b g) (sym is) tt
