-- The beginning of a proof, and what is listed of the board at the end.
use Rattle.std.proofs.Common.{◌≡◌, false, List, [], ◌∷◌, map, refl, sym, subst, ℤ}
use Rattle.std.specs.List.{All, AllZip}
use Rattle.std.proofs.lemmas.List.Elements.{All-cons, All-nil}
use Rattle.std.specs.List.Sorted.{IsPermutation}
use Rattle.front_set.specs.declared.entry.Entry.{Entry}
use Rattle.front_set.specs.Vector.{AreRising}
use Rattle.front_set.specs.Front.{vectors_of}
use Rattle.instance.specs.Shape.{InstanceValue}
use Rattle.instance.specs.ParetoFront.{listed_entry}
use Rattle.pb_lin.specs.CostRow.{CostRowValue}
use Rattle.pb_lin.specs.Problem.{ProblemValue, IsProblem}
use Rattle.proof_laws.specs.State.{StateValue, start}
use Rattle.proof_laws.specs.Replay.{IsReplay}
use Rattle.proof_laws.specs.declared.line.Line.{Line}
use Rattle.log_checker.specs.Accepted.{IsCovered, problem_vectors}
use Rattle.proof_rules.specs.Recording.{Snapshot}
use Rattle.sum_outputs.specs.Totals.{AreWeights}
use Rattle.totalizer.specs.Reforming.{IsReformOf}
use Rattle.totalizer.specs.declared.reform.Reform.{Reform}
use Rattle.search_base.specs.Boards.{BoardValue, IsBoard}
use Rattle.search_base.specs.CostBounds.{AreReforms}
use Rattle.search_base.specs.Laws.{IsPrepared, LoggedIsReached, NoLinesArePrepared}
use Rattle.search_base.specs.Logged.{logged}
use Rattle.certified_front.specs.Certified.{CoversLogged}
use Rattle.certified_front.proofs.ListedModels.{all_covered, listed_vectors, right_list}

-- no lines are prepared
pub begins_prepared : (a : Snapshot) (p : ProblemValue) → a.problem ≡ p → a.lines ≡ [] → NoLinesArePrepared → a.broken ≡ false → IsProblem p → IsPrepared a
begins_prepared a p same none law whole problem =
    law a (start a.problem) (subst IsProblem (sym same) problem) none whole (subst (λ (ls : List Line). IsReplay a.problem ls (start a.problem)) (sym none) refl)

-- the board's instance and the problem are known
listed_covers : LoggedIsReached → (p : ProblemValue) (lines : List Line) (board : BoardValue) (listed : List Entry) → IsBoard board (logged p lines) → IsPermutation (map (listed_entry board.instance) board.entries) listed → AreRising (vectors_of listed) → CoversLogged board.instance p lines listed
listed_covers law p lines board listed is same rising =
    let i = board.instance in
    record {
      right = right_list i board.entries listed is.models same is.apart rising;
      vectors = listed_vectors i board.entries listed is.models same;
      covered = λ s replay. subst (λ (vs : List (List ℤ)). All (IsCovered (problem_vectors i listed)) vs) (sym (law p lines s replay))
          (all_covered i board.entries listed is.models same (logged p lines) is.below);
    }

pub covers_logged : LoggedIsReached → (i : InstanceValue) (p q : ProblemValue) (lines : List Line) (board : BoardValue) (listed : List Entry) → board.instance ≡ i → q ≡ p → IsBoard board (logged q lines) →
    IsPermutation (map (listed_entry i) board.entries) listed → AreRising (vectors_of listed) → CoversLogged i p lines listed
covers_logged law i p q lines board listed of_board problem is same rising =
    subst (λ (j : InstanceValue). CoversLogged j p lines listed) of_board
    (listed_covers law p lines board listed
    (subst (λ (r : ProblemValue). IsBoard board (logged r lines)) problem is)
    (subst (λ (j : InstanceValue). IsPermutation (map (listed_entry j) board.entries) listed) (sym of_board) same) rising)

weights_by : (p : ProblemValue) (lines : List Line) (s : StateValue) (rows : List CostRowValue) (reforms : List Reform)
    → AllZip (IsReformOf p lines s) rows reforms → All (λ r. AreWeights r.terms) reforms
weights_by p lines s [] [] zip = All-nil (λ r. AreWeights r.terms)
weights_by p lines s [] (r ∷ reforms) zip = absurd zip
weights_by p lines s (row ∷ rows) [] zip = absurd zip
weights_by p lines s (row ∷ rows) (r ∷ reforms) zip =
    All-cons (λ q. AreWeights q.terms) r reforms zip.0.weights (weights_by p lines s rows reforms zip.1)

-- reforms over prepared lines have weights that may be summed
pub weights_of : (a : Snapshot) (reforms : List Reform) → IsPrepared a → AreReforms a reforms
    → All (λ r. AreWeights r.terms) reforms
weights_of a reforms prepared are =
    let ready = prepared.ready in
    weights_by a.problem a.lines ready.state a.problem.costs reforms (are.each ready.state ready.reached)
