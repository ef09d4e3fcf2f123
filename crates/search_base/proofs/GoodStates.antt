-- Calls that log nothing keep a good state good.
use Rattle.std.proofs.Common.{◌≡◌, ℕ, Bool, false, Option, None, Some, List, [], ◌∷◌, ◌++◌, ap, refl, sym, subst, ◌∙◌, arith, append-nil, append_assoc, ℤ}
use Rattle.std.specs.List.{All, Contains}
use Rattle.std.proofs.lemmas.List.Elements.{All-head, All-tail}
use Rattle.front_set.specs.Vector.{IsBelow}
use Rattle.pb_lin.specs.Constraint.{Holds}
use Rattle.pb_lin.specs.Problem.{ProblemValue, problem_costs}
use Rattle.proof_laws.specs.State.{StateValue, start}
use Rattle.proof_laws.specs.Legal.{Makes}
use Rattle.proof_laws.specs.Replay.{IsReplay, Leads}
use Rattle.proof_laws.specs.Earned.{IsEarned, changes_learned}
use Rattle.proof_laws.specs.declared.line.Line.{Line}
use Rattle.proof_laws.specs.declared.line.Line.TheVariants.{Pol, Rup, Learn, Def, Red, Dom, Sol, Del, Reduce, End}
use Rattle.proof_laws.proofs.EarnedLines.{line_keeps_earned}
use Rattle.proof_laws.proofs.Replays.{leads_further}
use Rattle.proof_rules.specs.Recording.{Snapshot}
use Rattle.oracle.specs.Solving.{AreEarned, IsWithin}
use Rattle.recording.specs.Advice.{IsConservative}
use Rattle.sum_outputs.specs.Adding.{Continues, IsLater, IsReached, KeptHold}
use Rattle.totalizer.specs.Keeping.{FittingStays, KeepsOwn, OwnLinesStay, ReformStays}
use Rattle.search_base.specs.Logged.{AddsTurnLines, IsCovered, LogsNone, logged}
use Rattle.search_base.specs.Boards.{BoardValue, IsBoard}
use Rattle.search_base.specs.Good.{AllIsNew}
use Rattle.search_base.specs.Laws.{AskingStaysGood, BoundingStaysGood}
use Rattle.search_base.proofs.TurnLines.{own_law, search_lines, totalizer_lines}
use Rattle.search_base.proofs.BoundRows.{bounds_later}
use Rattle.search_base.proofs.LoggedVectors.{search_logs_none, totalizer_logs_none}
use Rattle.search_base.proofs.TurnStates.{ready_after, replay_after}

-- ---- what is left

-- what is so of all that is left after these lines and isn't new
abbrev pub LeftAfter : ProblemValue → List Line → (List Bool → Type 0) → Type 0
LeftAfter p lines P = (s : StateValue) → IsReplay p lines s → (x : List Bool) → All (Holds x) p.rows →
    KeptHold p lines s x → IsCovered p lines (problem_costs p x) → P x

-- none of it is there
abbrev NoneIsLeft : List Bool → Type 0
NoneIsLeft x = ⊥

-- clauses that are kept hold before the lines too
kept_back : OwnLinesStay → (p : ProblemValue) (old new : List Line) (s t : StateValue) (x : List Bool) →
    KeepsOwn p old new → IsReplay p old s → IsReplay p new t → KeptHold p new t x → KeptHold p old s x
kept_back stays p old new s t x keeps before after hold id c kept =
    let later : IsLater p old s new t = stays p old new s t keeps before after in
    let own = later.own id c (kept.0, kept.2) in
    hold id c (own.0, kept.1, own.1)

-- it stays so after lines that log nothing
pub left_later : OwnLinesStay → (p : ProblemValue) (old new : List Line) (s : StateValue) (P : List Bool → Type 0) →
    KeepsOwn p old new → IsReplay p old s → LogsNone p old new → LeftAfter p old P → LeftAfter p new P
left_later stays p old new s P keeps before none is t after x rows hold covered =
    is s before x rows (kept_back stays p old new s t x keeps before after hold)
    (subst (λ (vs : List (List ℤ)). (u : List ℤ) × Contains vs u × IsBelow u (problem_costs p x)) none covered)

pub new_after : OwnLinesStay → (a b : Snapshot) (s : StateValue) → b.problem ≡ a.problem →
    KeepsOwn a.problem a.lines b.lines → IsReached a s → LogsNone a.problem a.lines b.lines → AllIsNew a → AllIsNew b
new_after stays a b s problem keeps reached none is =
    subst (λ (p : ProblemValue). LeftAfter p b.lines NoneIsLeft) (sym problem)
    (left_later stays a.problem a.lines b.lines s NoneIsLeft keeps reached none is)

-- ---- what is logged stays on the board

pub board_after : (a b : Snapshot) (board : BoardValue) → b.problem ≡ a.problem → LogsNone a.problem a.lines b.lines →
    IsBoard board (logged a.problem a.lines) → IsBoard board (logged b.problem b.lines)
board_after a b board problem none is =
    subst (λ (p : ProblemValue). IsBoard board (logged p b.lines)) (sym problem)
    (subst (λ (vs : List (List ℤ)). IsBoard board vs) (sym none) is)

-- ---- an oracle's call

pub asking_law : OwnLinesStay → FittingStays → ReformStays → AskingStaysGood
asking_law own fitting reforms a b t bounds board good reached on =
    let adds : AddsTurnLines a.problem a.lines b.lines = search_lines a.problem a.lines b.lines on.lines in
    let keeps : KeepsOwn a.problem a.lines b.lines = own_law a.problem a.lines b.lines adds in
    let none : LogsNone a.problem a.lines b.lines = search_logs_none a.problem a.lines b.lines on.lines in
    let s = good.ready.state in (
      record {
        ready = ready_after a b t good.ready adds on.problem on.whole reached;
        problem = good.problem ∙ sym on.problem;
        board = board_after a b board on.problem none good.board;
        bounds = bounds_later own fitting reforms a b s bounds on.problem keeps good.ready.reached good.bounds;
        earned = on.earned;
        within = on.within;
        new = new_after own a b s on.problem keeps good.ready.reached none good.new;
      },
      none,
    )

-- ---- conservative lines

totalizer_plain : (line : Line) → IsConservative line → changes_learned line ≡ false
totalizer_plain (Def var sum) is = refl
totalizer_plain (Pol tokens) is = refl
totalizer_plain (Rup goal hints) is = refl
totalizer_plain (Red goal w proofs) is = refl
totalizer_plain line is = absurd is

-- they keep what was earned
still_earned : (p : ProblemValue) (n : ℕ) (more lines : List Line) (s t : StateValue) → All IsConservative more →
    IsReplay p lines s → Leads p s more t → IsEarned p lines n → IsEarned p (lines ++ more) n
still_earned p n [] lines s t kinds replay leads earned =
    subst (λ (ls : List Line). IsEarned p ls n) (sym (append-nil lines)) earned
still_earned p n (line ∷ more) lines s t kinds replay leads earned =
    let plain = totalizer_plain line (All-head IsConservative line more kinds) in
    subst (λ (ls : List Line). IsEarned p ls n) (append_assoc lines (line ∷ []) more)
    (still_earned p n more (lines ++ line ∷ []) leads.0 t (All-tail IsConservative line more kinds)
    (leads_further p lines (start p) s leads.0 line replay leads.1) leads.2
    (line_keeps_earned p lines n s leads.0 line earned replay leads.1 plain))

abbrev learned_of : StateValue → ℕ
learned_of s = s.learned

learns_none : (p : ProblemValue) (s t : StateValue) (line : Line) → IsConservative line → Makes p s line t →
    t.learned ≡ s.learned
learns_none p s t (Pol tokens) is made = ap learned_of made.2
learns_none p s t (Def var sum) is made = ap learned_of made
learns_none p s t (Rup goal hints) is made = ap learned_of made
learns_none p s t (Learn goal hints) is made = absurd is
learns_none p s t (Red goal w proofs) is made = ap learned_of made
learns_none p s t (Dom goal w proofs) is made = absurd is
learns_none p s t (Sol model cut ids) is made = absurd is
learns_none p s t (Del ids) is made = absurd is
learns_none p s t (Reduce ids) is made = absurd is
learns_none p s t (End id) is made = absurd is

-- and learn nothing
none_learned : (p : ProblemValue) (s t : StateValue) (more : List Line) → All IsConservative more →
    Leads p s more t → t.learned ≡ s.learned
none_learned p s t [] kinds leads = ap learned_of leads
none_learned p s t (line ∷ more) kinds leads =
    none_learned p leads.0 t more (All-tail IsConservative line more kinds) leads.2
    ∙ learns_none p s leads.0 line (All-head IsConservative line more kinds) leads.1.makes

still_within : (p : ProblemValue) (limit : Option ℕ) (old new : List Line) (s : StateValue) → IsReplay p old s →
    ((t : StateValue) → IsReplay p new t → t.learned ≡ s.learned) → IsWithin limit p old → IsWithin limit p new
still_within p None old new s reached same within = tt
still_within p (Some limit) old new s reached same within = λ t after. let fewer = within s reached in
    let e = same t after in omega arith

module _ (a b : Snapshot) (on : Continues a b) (s : StateValue) (reached : IsReached a s) where
  leads_on : (t : StateValue) → IsReplay a.problem b.lines t → Leads a.problem s on.more t
  leads_on t after = replay_after a.problem a.lines b.lines on.more s t on.lines reached after

  pub earned_on : AreEarned a.problem a.lines → AreEarned b.problem b.lines
  earned_on (n, earned) =
      let has = on.states s reached in
      let after : IsReplay a.problem b.lines has.state =
      subst (λ (p : ProblemValue). IsReplay p b.lines has.state) on.problem has.reached in
      subst (λ (p : ProblemValue). AreEarned p b.lines) (sym on.problem) (
        n,
        subst (λ (ls : List Line). IsEarned a.problem ls n) (sym on.lines)
            (still_earned a.problem n on.more a.lines s has.state on.kinds reached (leads_on has.state after) earned),
      )

  pub within_on : IsWithin a.limit a.problem a.lines → IsWithin b.limit b.problem b.lines
  within_on within =
      subst (λ (most : Option ℕ). IsWithin most b.problem b.lines) (sym on.limit)
      (subst (λ (p : ProblemValue). IsWithin a.limit p b.lines) (sym on.problem)
      (still_within a.problem a.limit a.lines b.lines s reached
      (λ t after. none_learned a.problem s t on.more on.kinds (leads_on t after)) within))

pub bounding_law : OwnLinesStay → BoundingStaysGood
bounding_law own a b old new board good on whole fit =
    let adds : AddsTurnLines a.problem a.lines b.lines = totalizer_lines a b on in
    let keeps : KeepsOwn a.problem a.lines b.lines = own_law a.problem a.lines b.lines adds in
    let none : LogsNone a.problem a.lines b.lines = totalizer_logs_none a b on in
    let s = good.ready.state in
    let has = on.states s good.ready.reached in (
      record {
        ready = ready_after a b has.state good.ready adds on.problem whole has.reached;
        problem = good.problem ∙ sym on.problem;
        board = board_after a b board on.problem none good.board;
        bounds = fit;
        earned = earned_on a b on s good.ready.reached good.earned;
        within = within_on a b on s good.ready.reached good.within;
        new = new_after own a b s on.problem keeps good.ready.reached none good.new;
      },
      none,
    )
