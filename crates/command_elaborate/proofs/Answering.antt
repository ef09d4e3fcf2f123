-- What is answered of the lines of a log.
use Rattle.std.proofs.Common.{◌≡◌, ℕ, ◌+◌, List, [], ◌∷◌, ◌++◌, length, refl, sym, ap, ◌∙◌, subst, arith}
use Rattle.std.specs.Prelude.{Option, Some, None, Result, Ok, Err, IfOk, IfErr, OnErr}
use Rattle.pb_lin.specs.Problem.{ProblemValue}
use Rattle.proof_laws.specs.State.{StateValue, start}
use Rattle.proof_laws.specs.Steps.{made}
use Rattle.proof_laws.specs.WellFormed.{IsWellFormed}
use Rattle.proof_laws.specs.declared.line.Line.{Line}
use Rattle.proof_laws.specs.declared.line.Line.TheVariants.{Rup, Learn}
use Rattle.proof_laws.specs.declared.why.Why.{Why}
use Rattle.proof_laws.proofs.Replays.{replay_lines}
use Rattle.command_elaborate.specs.Loose.{IsElaborated}
use Rattle.command_elaborate.specs.Reasons.{Elaborates, Elaboration, IsAdded, IsLooseReason}
use Rattle.command_elaborate.specs.declared.fault.ElabFault.{ElabFault}
use Rattle.command_elaborate.specs.declared.fault.ElabFault.TheVariants.{Refused, NoMemory}
use Rattle.command_elaborate.proofs.Lists.{elaborations_law, goes_on_law}
use Rattle.command_base.specs.declared.log_file.LineFault.{LineFault}
use Rattle.command_base.specs.declared.log_file.LineFault.TheVariants.{Refused as RefusedAt}
use Rattle.command_elaborate.specs.Elaborating.{HasAnswered, Refuses, line_answer}

-- ---- lists of lines

-- as many lines are answered
one_each : (p : ProblemValue) (s : StateValue) (lines news : List Line) (t : StateValue) (refused : Option Why) → refused ≡ None → Elaborates p s lines news t refused → length lines ≡ length news
one_each p s [] [] t refused none is = refl
one_each p s [] (new ∷ news) t refused none is = cc
one_each p s (line ∷ lines) [] t refused none is = let both : None ≡ Some is.1.0 = sym none ∙ is.1.1 in cc
one_each p s (line ∷ lines) (new ∷ news) t refused none is = let rest = one_each p is.0 lines news t refused none is.2 in omega (arith, rest)

-- the state counts the lines
counted : (p : ProblemValue) (lines news : List Line) (t : StateValue) → Elaborates p (start p) lines news t None → t.lines ≡ length lines
counted p lines news t is =
    let all = replay_lines p news t (elaborations_law p lines news t None is).replay in
    let same = one_each p (start p) lines news t None refl is in
    omega (arith, all, same)

-- hints make no ids
made_alike : (line new : Line) → IsElaborated line new → made new ≡ made line
made_alike (Rup goal []) new is = ap made is.1
made_alike (Learn goal []) new is = ap made is.1
made_alike line new is = ap made is

-- ---- the next line

module _ (e after : Elaboration) (line : Line) (answer : Result Line ElabFault) (taken : Result Line LineFault) (number : ℕ) (is : taken ≡ line_answer number answer) where
  -- what is so where it is answered
  ok_where : (P Q : Line → Type 0) → IfOk answer P → ((new : Line) → P new → Q new) → IfOk taken Q
  ok_where P Q holds then = subst (λ (r : Result Line LineFault). IfOk r Q) (sym is) (by answer holds)
    where
      by : (a : Result Line ElabFault) → IfOk a P → IfOk (line_answer number a) Q
      by (Ok new) h = then new h
      by (Err (Refused why)) h = tt
      by (Err NoMemory) h = tt

  -- what is so where it isn't
  err_where : (P Q : Type 0) → OnErr answer P → (P → Q) → OnErr taken Q
  err_where P Q holds then = subst (λ (r : Result Line LineFault). OnErr r Q) (sym is) (by answer holds)
    where
      by : (a : Result Line ElabFault) → OnErr a P → OnErr (line_answer number a) Q
      by (Ok new) h = tt
      by (Err (Refused why)) h = then h
      by (Err NoMemory) h = then h

  pub line_formed : IfOk answer (λ new. IsAdded e.problem e.state line new after.state) → IfOk taken IsWellFormed
  line_formed added = ok_where (λ new. IsAdded e.problem e.state line new after.state) IsWellFormed added (λ new a. a.formed)

  pub line_made : IfOk answer (λ new. IsAdded e.problem e.state line new after.state) → IfOk taken (λ new. made new ≡ made line)
  line_made added = ok_where (λ new. IsAdded e.problem e.state line new after.state) (λ new. made new ≡ made line) added (λ new a. made_alike line new a.elaborated)

  pub line_added : after.problem ≡ e.problem → IfOk answer (λ new. IsAdded e.problem e.state line new after.state)
      → IfOk taken (λ new. (lines news : List Line) → HasAnswered e lines news → HasAnswered after (lines ++ line ∷ []) (news ++ new ∷ []))
  line_added same added = ok_where (λ new. IsAdded e.problem e.state line new after.state) (λ new. (lines news : List Line) → HasAnswered e lines news → HasAnswered after (lines ++ line ∷ []) (news ++ new ∷ [])) added
      (λ new a lines news was. subst (λ (p : ProblemValue). Elaborates p (start p) (lines ++ line ∷ []) (news ++ new ∷ []) after.state None) (sym same)
      ((goes_on_law e.problem (start e.problem) lines news e.state line was).added new after.state a))

  pub line_stays : OnErr answer (after ≡ e) → OnErr taken ((lines news : List Line) → HasAnswered e lines news → HasAnswered after lines news)
  line_stays same = err_where (after ≡ e) ((lines news : List Line) → HasAnswered e lines news → HasAnswered after lines news) same
      (λ alike lines news was. subst (λ (x : Elaboration). Elaborates x.problem (start x.problem) lines news x.state None) (sym alike) was)

  pub line_refused : IfErr answer (IsLooseReason e.problem e.state line) → OnErr answer (after ≡ e) → (k : ℕ) (why : Why) → taken ≡ Err (RefusedAt k why) → Refuses after line why
  line_refused reason same k why refused = by answer reason same (sym is ∙ refused)
    where
      by : (a : Result Line ElabFault) → IfErr a (IsLooseReason e.problem e.state line) → OnErr a (after ≡ e) → line_answer number a ≡ Err (RefusedAt k why) → Refuses after line why
      by (Ok new) r s told = absurd cc
      by (Err (Refused other)) r s told =
          let named : other ≡ why = cc in
          subst (λ (x : Elaboration). IsLooseReason x.problem x.state line (Refused why)) (sym s) (subst (λ (w : Why). IsLooseReason e.problem e.state line (Refused w)) named r)
      by (Err NoMemory) r s told = absurd cc

  pub line_numbered : number ≡ e.state.lines + 2 → (k : ℕ) (why : Why) → taken ≡ Err (RefusedAt k why) → (lines news : List Line) → HasAnswered e lines news → k ≡ length lines + 2
  line_numbered counts k why refused lines news was = by answer (sym is ∙ refused)
    where
      by : (a : Result Line ElabFault) → line_answer number a ≡ Err (RefusedAt k why) → k ≡ length lines + 2
      by (Ok new) told = absurd cc
      by (Err (Refused other)) told =
          let named : number ≡ k = cc in
          let all = counted e.problem lines news e.state was in
          omega (arith, named, counts, all)
      by (Err NoMemory) told = absurd cc
