-- What answers tell of the limits.
use Rattle.std.proofs.Common.{◌≡◌, ◌≢◌, ℕ, ◌-◌, ◌^◌, ◌<◌, ◌≤◌, ◌==◌, ◌&&◌, ◌||◌, zero, suc, Bool, true, false, List, [], ◌∷◌, map, length, get_or, ap, refl, subst, sym, ◌∙◌, ⊎_elim, arith, ℤ, pos}
use Rattle.std.specs.Prelude.{◌<ℤ◌, ◌≤ℤ◌, Contains, replicate}
use Rattle.std.specs.List.{All}
use Rattle.std.proofs.Math.Bool.{beq}
use Rattle.std.proofs.lemmas.Bool.{cases_lt, eq-eqb, or_left, or_right}
use Rattle.std.proofs.lemmas.List.{get_or-map, get_or_default, get_or_append_left, get_or-append_right, length-map, length-append, length-replicate, get_or-replicate}
use Rattle.std.proofs.lemmas.List.Elements.{All-nil, All-contains, Contains-append_left, Contains-push}
use Rattle.scut_base.specs.Literal.{Literal}
use Rattle.scut_base.proofs.Lists.{Contains-head}
use Rattle.scut_base.specs.Assignment.{lit_true}
use Rattle.front_set.specs.Vector.{IsBelow}
use Rattle.pb_lin.specs.Constraint.{opposite}
use Rattle.pb_lin.specs.Problem.{ProblemValue, problem_costs}
use Rattle.pb_lin.specs.Restriction.{is_among}
use Rattle.pb_lin.proofs.Truths.{beq_same}
use Rattle.proof_laws.specs.State.{StateValue}
use Rattle.proof_laws.specs.Replay.{IsReplay}
use Rattle.proof_laws.specs.declared.line.Line.{Line}
use Rattle.oracle.specs.Solving.{IsAnswer, IsCore, Reaches}
use Rattle.oracle.specs.declared.answer.Answer.TheVariants.{Sat}
use Rattle.proof_rules.specs.Recording.{Snapshot}
use Rattle.sum_outputs.specs.Adding.{IsReached, KeptHold}
use Rattle.totalizer.specs.declared.bound.Bound.{Bound}
use Rattle.totalizer.specs.declared.bound.Bound.TheVariants.{Always, Never, At}
use Rattle.search_base.specs.Turns.{IsTakable}
use Rattle.relaxations.specs.Questions.{AreExcesses, Clashes, Denies, IsDenial, IsLimited, IsUndeniable}
use Rattle.relaxations.specs.Cores.{are_standing, clash_in, stands_in}
use Rattle.relaxations.specs.Telling.{CanRise, IsStanding, KeepsTo, StandInTheWay, number_at}
use Rattle.relaxations.proofs.Excesses.{IsMet, LiveHold}
use Rattle.relaxations.proofs.Questions.{IsOf, asked_below, denied, excess_there, not_met}
use Rattle.relaxations.proofs.Cores.{core_fails}

-- ---- which limits stand

same_true : (l : Literal) → (l.var == l.var && beq l.neg l.neg) ≡ true
same_true l = ap (λ (b : Bool). b && beq l.neg l.neg) (eq-eqb l.var l.var refl) ∙ beq_same l.neg l.neg refl

among_from : (core : List Literal) (l : Literal) → Contains core l → is_among core l ≡ true
among_from [] l has = absurd (let short = has.1 in omega arith)
among_from (m ∷ core) l has = by (λ more. among_from core l more) has.0 has.1 has.2
  where
    by : (Contains core l → is_among core l ≡ true) → (k : ℕ) → k < length (m ∷ core) → get_or (m ∷ core) k l ≡ l
        → ((m.var == l.var && beq m.neg l.neg) || is_among core l) ≡ true
    by rest zero short is = or_left (m.var == l.var && beq m.neg l.neg) (is_among core l)
        (ap (λ (n : Literal). n.var == l.var && beq n.neg l.neg) is ∙ same_true l)
    by rest (suc k) short is =
        or_right (m.var == l.var && beq m.neg l.neg) (is_among core l) (rest (k, omega arith, is))

-- that of a bound whose denial is in the core stands
denial_stands : (core : List Literal) (b : Bound) (m : Literal) → Contains core m → IsDenial b m → stands_in b core ≡ true
denial_stands core (Always id) m there denial = absurd denial
denial_stands core Never m there denial = absurd denial
denial_stands core (At l id) m there denial =
    among_from core (opposite l) (subst (λ (n : Literal). Contains core n) denial there)

-- a limit that stands is below 2^63 - 1
limit_below : (limit : ℤ) (b : Bound) (core : List Literal) → stands_in b core ≡ true → IsLimited limit b
    → limit <ℤ pos (2 ^ 63 - 1)
limit_below limit (Always id) core stands is = is
limit_below limit Never core stands is = cc
limit_below limit (At l id) core stands is = is

module _ (p : ProblemValue) (lines : List Line) (limits : List ℤ) (bounds : List Bound) (core : List Literal)
    (excesses : AreExcesses p lines limits bounds) where
  abbrev marks : List Bool
  marks = map (λ b. stands_in b core) bounds

  abbrev stands : List Bool
  stands = are_standing bounds core (length limits)

  stands_length : length stands ≡ length limits
  stands_length =
      let count = excesses.count in
      let both = length-append marks (replicate (length limits - length bounds) false) in
      let one = length-map bounds (λ (b : Bound). stands_in b core) in
      let other = length-replicate (length limits - length bounds) false in
      omega arith

  stands_at : (i : ℕ) (d : Bool) → i < length bounds → get_or stands i d ≡ stands_in (get_or bounds i Never) core
  stands_at i d short =
      let long = length-map bounds (λ (b : Bound). stands_in b core) in
      get_or_append_left marks (replicate (length limits - length bounds) false) d i (omega arith)
      ∙ get_or-map (λ (b : Bound). stands_in b core) bounds i Never d short

  stands_past : (i : ℕ) (d : Bool) → length bounds ≤ i → i < length stands → get_or stands i d ≡ false
  stands_past i d past short =
      let long = length-map bounds (λ (b : Bound). stands_in b core) in
      let all = stands_length in
      get_or-append_right marks (replicate (length limits - length bounds) false) (length bounds) i d long past
      ∙ get_or-replicate (length limits - length bounds) (i - length bounds) false d (omega arith)

  -- where its denial is in the core, the bound's limit stands
  pub stands_there : (b : Bound) (place : Contains bounds b) → stands_in b core ≡ true → IsStanding stands place.0
  stands_there b place is =
      stands_at place.0 false place.1
      ∙ ap (λ (c : Bound). stands_in c core) (get_or_default bounds place.0 Never b place.1 ∙ place.2)
      ∙ is

  pub rise_from : (b : Bound) → Contains bounds b → stands_in b core ≡ true → CanRise limits stands
  rise_from b place is = record {
    count = stands_length;
    some = (place.0, (let count = excesses.count in let short = place.1 in omega arith), stands_there b place is);
    each = λ j inside stood. ⊎_elim
        (λ (before : j < length bounds).
        limit_below (number_at limits j) (get_or bounds j Never) core (sym (stands_at j false before) ∙ stood)
        (excesses.limited j (pos 0) Never before))
        (λ (past : length bounds ≤ j).
        absurd (not_both (stands_past j false past (let long = stands_length in omega arith)) stood))
        (cases_lt j (length bounds));
  }
    where
      not_both : {b : Bool} → b ≡ false → b ≡ true → ⊥
      not_both one other = cc

-- an assignment whose costs keep to the limits that stand in a core
module _ (p : ProblemValue) (lines : List Line) (limits : List ℤ) (bounds : List Bound) (core : List Literal)
    (s : StateValue) (reached : IsReplay p lines s) (excesses : AreExcesses p lines limits bounds)
    (x : List Bool) (hold : LiveHold s x)
    (keeps : KeepsTo limits (IsStanding (are_standing bounds core (length limits))) (problem_costs p x)) where
  within : (b : Bound) (place : Contains bounds b) → stands_in b core ≡ true
      → number_at (problem_costs p x) place.0 ≤ℤ number_at limits place.0
  within b place is =
      let count = excesses.count in
      let short = place.1 in
      keeps place.0 (omega arith) (stands_there p lines limits bounds core excesses b place is)

  stays_unmet : (b : Bound) → Contains bounds b → stands_in b core ≡ true → IsMet x b → ⊥
  stays_unmet b place is = not_met p lines limits s reached x hold place.0 b
      (excess_there p lines limits bounds excesses b place) (within b place is)

  -- makes what denies their excesses true
  denial_true : (b : Bound) (m : Literal) → Contains bounds b → Contains core m → IsDenial b m → lit_true x m ≡ true
  denial_true b m place there denial = denied p lines limits s reached x hold place.0 b m
      (excess_there p lines limits bounds excesses b place)
      (within b place (denial_stands core b m there denial)) denial

-- ---- after a clash

last_there : (bounds : List Bound) (last : Bound) (clash : Clashes bounds last) → Contains bounds last
last_there bounds last clash =
    subst (λ (bs : List Bound). Contains bs last) (sym clash.are) (Contains-push clash.before last)

-- the last one stands
last_stands : (lits : List Literal) (b : Bound) → IsUndeniable lits b → stands_in b (clash_in b) ≡ true
last_stands lits (Always id) can = refl
last_stands lits Never can = absurd can
last_stands lits (At l id) can = among_from (l ∷ opposite l ∷ []) (opposite l) (1, omega arith, refl)

pub clash_rises : (p : ProblemValue) (lines : List Line) (limits : List ℤ) (bounds : List Bound) (last : Bound)
    → AreExcesses p lines limits bounds → Clashes bounds last
    → CanRise limits (are_standing bounds (clash_in last) (length limits))
clash_rises p lines limits bounds last excesses clash =
    rise_from p lines limits bounds (clash_in last) excesses last (last_there bounds last clash)
    (last_stands clash.lits last clash.undeniable)

-- nothing that is left keeps to its limit and to that of the other one
pub clash_stands : (b : Snapshot) (limits : List ℤ) (bounds : List Bound) (last : Bound)
    → AreExcesses b.problem b.lines limits bounds → Clashes bounds last
    → StandInTheWay b limits (are_standing bounds (clash_in last) (length limits))
clash_stands b limits bounds last excesses clash (s, reached, x, satisfies, keeps) =
    by last (last_there bounds last clash) clash.undeniable excesses keeps
  where
    by : (c : Bound) → Contains bounds c → IsUndeniable clash.lits c → AreExcesses b.problem b.lines limits bounds
        → KeepsTo limits (IsStanding (are_standing bounds (clash_in c) (length limits))) (problem_costs b.problem x) → ⊥
    by (Always id) place can excesses keeps = stays_unmet b.problem b.lines limits bounds [] s reached excesses x
        satisfies.live keeps (Always id) place refl tt
    by Never place can excesses keeps = can
    by (At l id) place can excesses keeps =
        let core = clash_in (At l id) in
        let has = All-contains (IsOf clash.before) clash.lits l clash.denies.only can in
        let other : Contains bounds has.0 = subst (λ (bs : List Bound). Contains bs has.0) (sym clash.are)
        (Contains-append_left clash.before (last ∷ []) has.0 has.1) in
        let truth = denial_true b.problem b.lines limits bounds core s reached excesses x satisfies.live keeps
        has.0 l other (Contains-head l (opposite l ∷ [])) has.2 in
        stays_unmet b.problem b.lines limits bounds core s reached excesses x satisfies.live keeps (At l id) place
        (last_stands clash.lits (At l id) can) truth

-- ---- after an oracle's core

-- one of its literals denies a bound
pub core_rises : (p : ProblemValue) (lines : List Line) (limits : List ℤ) (bounds : List Bound)
    (lits core : List Literal) → AreExcesses p lines limits bounds → Denies bounds lits → All (Contains lits) core
    → core ≢ [] → CanRise limits (are_standing bounds core (length limits))
core_rises p lines limits bounds lits [] excesses denies among some = absurd (some refl)
core_rises p lines limits bounds lits (m ∷ core) excesses denies among some =
    let has = All-contains (IsOf bounds) lits m denies.only (among 0 m (omega arith)) in
    rise_from p lines limits bounds (m ∷ core) excesses has.0 has.1
    (denial_stands (m ∷ core) has.0 m (Contains-head m core) has.2)

-- nothing that is left keeps to the limits that stand in it
pub core_stands : (b : Snapshot) (limits : List ℤ) (bounds : List Bound) (lits core : List Literal) (id : ℕ)
    → AreExcesses b.problem b.lines limits bounds → Denies bounds lits → Reaches b.problem b.lines (IsCore lits core id)
    → StandInTheWay b limits (are_standing bounds core (length limits))
core_stands b limits bounds lits core id excesses denies is (s, reached, x, satisfies, keeps) =
    let known = is s reached in
    core_fails lits core id s x known satisfies.live (λ k d short.
    let m = get_or core k d in
    let has = All-contains (IsOf bounds) lits m denies.only (known.among k d short) in
    denial_true b.problem b.lines limits bounds core s reached excesses x satisfies.live keeps has.0 m has.1
    (k, short, get_or_default core k m d short) has.2)

-- ---- the oracle's answers

-- a model may be taken
pub takable : (b : Snapshot) (lits : List Literal) (x : List Bool) → IsAnswer b.problem b.lines lits (Sat x)
    → IsTakable b x
takable b lits x answer s reached =
    let is = answer s reached in
    let none = All-nil (λ l. lit_true x l ≡ true) in
    record { variables = is.variables; rows = is.rows; clauses = is.clauses; assumed = none }

module _ (b : Snapshot) (limits : List ℤ) (bounds : List Bound) (lits : List Literal)
    (excesses : AreExcesses b.problem b.lines limits bounds) (denies : Denies bounds lits) where
  -- a model that satisfies what was assumed keeps to the limits
  pub model_below : (s : StateValue) (x : List Bool) → IsReached b s → length bounds ≡ length limits
      → length limits ≡ length b.problem.costs → IsAnswer b.problem b.lines lits (Sat x)
      → IsBelow (problem_costs b.problem x) limits
  model_below s x reached whole long answer =
      let is = answer s reached in
      let kept : KeptHold b.problem b.lines s x = λ id c keeps. is.clauses id c keeps.0 keeps.1 in
      asked_below b.problem b.lines limits bounds lits s reached excesses denies x whole long is.rows kept is.assumed
