-- Tokens under new ids make the same constraint.
use Rattle.std.specs.Prelude.{◌≡◌, ℕ, Option, Some, None, List, [], ◌∷◌, map, unwrap_or, MatchOption, Ok, Err, refl}
use Rattle.std.proofs.Common.{sym, ◌∙◌, ap, subst}
use Rattle.std.specs.List.{flat_map}
use Rattle.std.specs.FinMap.{get}
use Rattle.std.proofs.lemmas.List.Elements.{All-head, All-tail}
use Rattle.pb_lin.specs.Constraint.{ConstraintValue}
use Rattle.pb_lin.specs.Given.{Given}
use Rattle.cutting_planes.specs.Stack.{token_fault, named_fault, IsPushed, IsStep, IsValueOn, Answer}
use Rattle.cutting_planes.specs.declared.token.PolToken.{PolToken}
use Rattle.cutting_planes.specs.declared.token.PolToken.TheVariants.{Id as IdToken, Axiom, Negated, Denied, Add, Mul, Div, Saturate, Weaken}
use Rattle.cutting_planes.specs.declared.fault.PolFault.{PolFault}
use Rattle.proof_laws.specs.State.{StateValue}
use Rattle.proof_laws.specs.Refusal.{given_in}
use Rattle.command_trim.specs.Trimmed.{Renaming, id_or_same, new_token, token_ids}
use Rattle.command_trim.specs.Simulation.{IsCarried, AreCarried}

abbrev Stack : Type 0
Stack = List ConstraintValue

module _ (r : Renaming) (s t : StateValue) (negated denied : Option ConstraintValue) where
  abbrev old : Given
  old = given_in s negated denied

  abbrev new : Given
  new = given_in t negated denied

  -- what comes after a token
  abbrev After : Given → PolToken → Stack → List PolToken → Answer → Type 0
  After given token stack tokens answer = (next : Stack) × IsStep given token stack next × IsValueOn given next tokens answer

  -- a token that names no line does the same over other lines
  same_fault : (token : PolToken) (stack : Stack) → token_ids token ≡ [] → token_fault old token stack ≡ token_fault new token stack
  same_fault (IdToken id) stack none = cc
  same_fault (Axiom l) stack none = refl
  same_fault Negated stack none = refl
  same_fault Denied stack none = refl
  same_fault Add [] none = refl
  same_fault Add (q ∷ []) none = refl
  same_fault Add (q ∷ p ∷ stack) none = refl
  same_fault (Mul k) [] none = refl
  same_fault (Mul k) (c ∷ stack) none = refl
  same_fault (Div k) [] none = refl
  same_fault (Div k) (c ∷ stack) none = refl
  same_fault Saturate [] none = refl
  same_fault Saturate (c ∷ stack) none = refl
  same_fault (Weaken var) [] none = refl
  same_fault (Weaken var) (c ∷ stack) none = refl

  same_step : (token : PolToken) (stack next : Stack) → token_ids token ≡ [] → IsStep old token stack next → IsStep new token stack next
  same_step (IdToken id) stack next none step = cc
  same_step (Axiom l) stack next none step = step
  same_step Negated stack next none step = step
  same_step Denied stack next none step = step
  same_step Add [] next none step = step
  same_step Add (q ∷ []) next none step = step
  same_step Add (q ∷ p ∷ stack) next none step = step
  same_step (Mul k) [] next none step = step
  same_step (Mul k) (c ∷ stack) next none step = step
  same_step (Div k) [] next none step = step
  same_step (Div k) (c ∷ stack) next none step = step
  same_step Saturate [] next none step = step
  same_step Saturate (c ∷ stack) next none step = step
  same_step (Weaken var) [] next none step = step
  same_step (Weaken var) (c ∷ stack) next none step = step

  matched : (fault : Option PolFault) (P Q : Type 0) (answer : Answer) (c : ConstraintValue) → answer ≡ Ok c → (P → Q) → MatchOption fault P (λ f. answer ≡ Err f) → MatchOption fault Q (λ f. answer ≡ Err f)
  matched None P Q answer c ok more is = more is
  matched (Some f) P Q answer c ok more is = is

  abbrev Carried : ℕ → Type 0
  Carried id = (c : ConstraintValue) → get s.live id ≡ Some c → IsCarried r s t id c

  -- a line that is pushed
  pushed : (id : ℕ) (o : Option ConstraintValue) (stack : Stack) (tokens news : List PolToken) (c : ConstraintValue) → get s.live id ≡ o → Carried id
      → ((next : Stack) → IsValueOn old next tokens (Ok c) → IsValueOn new next news (Ok c))
      → MatchOption (named_fault o id) ((next : Stack) × IsPushed o stack next × IsValueOn old next tokens (Ok c)) (λ f. Ok c ≡ Err f)
      → IsValueOn new stack (IdToken (id_or_same r id) ∷ news) (Ok c)
  pushed id None stack tokens news c was carried rest is = absurd (ok_err c is)
    where
      ok_err : (d : ConstraintValue) {f : PolFault} → ◌≡◌ {A = Answer} (Ok d) (Err f) → ⊥
      ok_err d e = cc
  pushed id (Some d) stack tokens news c was carried rest is =
      let there = carried d was in
      let here : get t.live (id_or_same r id) ≡ Some d = ap (λ (o : Option ℕ). get t.live (unwrap_or o id)) there.is ∙ there.there in
      subst (λ (o : Option ConstraintValue). MatchOption (named_fault o (id_or_same r id)) ((next : Stack) × IsPushed o stack next × IsValueOn new next news (Ok c)) (λ f. ◌≡◌ {A = Answer} (Ok c) (Err f))) (sym here)
      (is.0, is.1, rest is.0 is.2)

  -- a token that isn't renamed
  plain : (token : PolToken) (stack : Stack) (tokens news : List PolToken) (c : ConstraintValue) → token_ids token ≡ []
      → ((next : Stack) → IsValueOn old next tokens (Ok c) → IsValueOn new next news (Ok c))
      → IsValueOn old stack (token ∷ tokens) (Ok c) → IsValueOn new stack (token ∷ news) (Ok c)
  plain token stack tokens news c none rest is =
      subst (λ (f : Option PolFault). MatchOption f (After new token stack news (Ok c)) (λ g. ◌≡◌ {A = Answer} (Ok c) (Err g))) (same_fault token stack none)
      (matched (token_fault old token stack) (After old token stack tokens (Ok c)) (After new token stack news (Ok c)) (Ok c) c refl
      (λ after. (after.0, same_step token stack after.0 none after.1, rest after.0 after.2)) is)

  pub value_simulated : (tokens : List PolToken) (stack : Stack) (c : ConstraintValue) → AreCarried r s t (flat_map token_ids tokens) → IsValueOn old stack tokens (Ok c) → IsValueOn new stack (map (new_token r) tokens) (Ok c)
  value_simulated [] stack c carried is = is
  value_simulated (IdToken id ∷ tokens) stack c carried is =
      pushed id (get s.live id) stack tokens (map (new_token r) tokens) c refl (All-head Carried id (flat_map token_ids tokens) carried)
      (λ next. value_simulated tokens next c (All-tail Carried id (flat_map token_ids tokens) carried)) is
  value_simulated (Axiom l ∷ tokens) stack c carried is = plain (Axiom l) stack tokens (map (new_token r) tokens) c refl (λ next. value_simulated tokens next c carried) is
  value_simulated (Negated ∷ tokens) stack c carried is = plain Negated stack tokens (map (new_token r) tokens) c refl (λ next. value_simulated tokens next c carried) is
  value_simulated (Denied ∷ tokens) stack c carried is = plain Denied stack tokens (map (new_token r) tokens) c refl (λ next. value_simulated tokens next c carried) is
  value_simulated (Add ∷ tokens) stack c carried is = plain Add stack tokens (map (new_token r) tokens) c refl (λ next. value_simulated tokens next c carried) is
  value_simulated (Mul k ∷ tokens) stack c carried is = plain (Mul k) stack tokens (map (new_token r) tokens) c refl (λ next. value_simulated tokens next c carried) is
  value_simulated (Div k ∷ tokens) stack c carried is = plain (Div k) stack tokens (map (new_token r) tokens) c refl (λ next. value_simulated tokens next c carried) is
  value_simulated (Saturate ∷ tokens) stack c carried is = plain Saturate stack tokens (map (new_token r) tokens) c refl (λ next. value_simulated tokens next c carried) is
  value_simulated (Weaken var ∷ tokens) stack c carried is = plain (Weaken var) stack tokens (map (new_token r) tokens) c refl (λ next. value_simulated tokens next c carried) is
