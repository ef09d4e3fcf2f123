-- What is accepted is refused nowhere.
use Rattle.std.proofs.Common.{◌≡◌, ℕ, ◌<◌, ◌^◌, List, length, subst}
use Rattle.front_set.specs.declared.entry.Entry.{Entry}
use Rattle.front_text.proofs.Texts.{one_list_of}
use Rattle.instance.specs.Shape.{InstanceValue}
use Rattle.instance_normal.proofs.OneForm.{one_form}
use Rattle.pb_lin.specs.Problem.{ProblemValue}
use Rattle.log_checker.specs.Accepted.{IsAccepted, IsEndedProof, problem_vectors}
use Rattle.log_checker.specs.NoRefusal.{IsRefusedNowhere}
use Rattle.log_checker.proofs.Faults.{ended_has_no_fault}
use Rattle.log_checker.proofs.ListLaws.{right_has_no_fault}

pub accepted_unrefused : (i : InstanceValue) (list log : List ℕ) → length list < 2 ^ 64 → IsAccepted i list log → IsRefusedNowhere i list log
accepted_unrefused i list log short accepted = record {
  right_list = λ k why. right_has_no_fault i list short accepted.entries k why accepted.spelled accepted.right;
  right_log = λ entries p k why spelled normal.
      let same : accepted.entries ≡ entries = (one_list_of list _ _ accepted.entries entries short accepted.spelled spelled).1 in
      let form : accepted.problem ≡ p = one_form i accepted.problem p accepted.normal normal in
      let proof : IsEndedProof p (problem_vectors i entries) log = subst (λ (es : List Entry). IsEndedProof p (problem_vectors i es) log) same
      (subst (λ (q : ProblemValue). IsEndedProof q (problem_vectors i accepted.entries) log) form accepted.proof) in
      ended_has_no_fault p (problem_vectors i entries) log k why proof;
}
