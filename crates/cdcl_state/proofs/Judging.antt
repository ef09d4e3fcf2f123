-- What is known of which steps are implied, as it grows.
use Rattle.std.specs.Prelude.{◌≡◌, ℕ, ◌<◌, ◌≤◌, List, [], ◌∷◌, ◌++◌, length, All}
use Rattle.std.proofs.Common.{sym, subst, inl}
use Rattle.std.proofs.lemmas.List.Elements.{All-nil, All-cons, All-head, All-tail, All-push}
use Rattle.cdcl_state.specs.declared.implied.Implied.{Implied}
use Rattle.cdcl_state.specs.declared.implied.Visit.{Visit}
use Rattle.cdcl_state.specs.declared.implied.Verdict.{Verdict}
use Rattle.cdcl_state.specs.declared.implied.Verdict.TheVariants.{Unknown}
use Rattle.cdcl_state.specs.Minimising.{IsBusy, IsIdle, IsVerdict}

pub idle_busy : (n : ℕ) (m : Implied) → IsIdle m → n ≤ length m.memo.items → IsBusy n m
idle_busy n m idle long = record {
  listed = λ p. inl (idle.unjudged p);
  judged = subst (λ (ps : List ℕ). All (λ p. p < n) ps) (sym idle.judged) (All-nil (λ p. p < n));
  stack = subst (λ vs. All (λ v. v.place < n) vs) (sym idle.stack) (All-nil (λ v. v.place < n));
  places = subst (λ (ps : List ℕ). All (λ p. p < n) ps) (sym idle.places) (All-nil (λ p. p < n));
  long = long;
}

-- the verdict speaks of a place
verdict_place : (n p : ℕ) (v : Verdict) → v ≡ Unknown p → IsVerdict n v → p < n
verdict_place n p v is verdict = subst (λ (w : Verdict). IsVerdict n w) is verdict

front_and_last : (n : ℕ) (vs : List Visit) (v : Visit) → All (λ w. w.place < n) (vs ++ v ∷ []) → All (λ w. w.place < n) vs × (v.place < n)
front_and_last n [] v each = (All-nil (λ (w : Visit). w.place < n), All-head (λ (w : Visit). w.place < n) v [] each)
front_and_last n (u ∷ us) v each =
    let rest = front_and_last n us v (All-tail (λ (w : Visit). w.place < n) u (us ++ v ∷ []) each) in
    (All-cons (λ (w : Visit). w.place < n) u us (All-head (λ (w : Visit). w.place < n) u (us ++ v ∷ []) each) rest.0, rest.1)

-- the last visit is taken off
pub popped_busy : (n : ℕ) (m : Implied) (rest : List Visit) (v : Visit) → IsBusy n m → m.stack ≡ rest ++ v ∷ [] → IsBusy n (record { memo = m.memo; judged = m.judged; stack = rest; places = m.places })
popped_busy n m rest v busy is = record {
  listed = busy.listed;
  judged = busy.judged;
  stack = (front_and_last n rest v (subst (λ (vs : List Visit). All (λ w. w.place < n) vs) is busy.stack)).0;
  places = busy.places;
  long = busy.long;
}

pub popped_place : (n : ℕ) (m : Implied) (rest : List Visit) (v : Visit) → IsBusy n m → m.stack ≡ rest ++ v ∷ [] → v.place < n
popped_place n m rest v busy is = (front_and_last n rest v (subst (λ (vs : List Visit). All (λ w. w.place < n) vs) is busy.stack)).1

-- a visit is put back, and one more before it
pub pushed_busy : (n : ℕ) (m : Implied) (one two : List Visit) (v : Visit) (verdict : Verdict) (p : ℕ) → IsBusy n m → v.place < n → verdict ≡ Unknown p → IsVerdict n verdict → one ≡ m.stack ++ v ∷ [] → two ≡ one ++ record { place = p; done = 0 } ∷ [] → IsBusy n (record { memo = m.memo; judged = m.judged; stack = two; places = m.places })
pushed_busy n m one two v verdict p busy place is says first second = record {
  listed = busy.listed;
  judged = busy.judged;
  stack = subst (λ (vs : List Visit). All (λ w. w.place < n) vs) (sym second)
      (All-push (λ (w : Visit). w.place < n) one (record { place = p; done = 0 })
      (subst (λ (vs : List Visit). All (λ w. w.place < n) vs) (sym first) (All-push (λ (w : Visit). w.place < n) m.stack v busy.stack place))
      (verdict_place n p verdict is says));
  places = busy.places;
  long = busy.long;
}
