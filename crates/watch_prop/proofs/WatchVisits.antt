-- The clauses that stay held, and the steps that they force, from one visit to the next.
use Rattle.std.proofs.Common.{◌≡◌, ◌⊎◌, ◌≤◌, ℕ, zero, suc, take, List, [], ◌∷◌, ◌++◌, length, inl, inr, refl, arith, ap, sym, subst, ◌∙◌}
use Rattle.std.specs.List.{swap}
use Rattle.std.specs.Prelude.{Result, Ok, Err, Option, Some, None, IfOk, IfSome, IfNone, OnErr, Contains, ◌<◌, IsPermutation}
use Rattle.std.proofs.lemmas.List.Sorted.{IsPermutation-swap, IsPermutation-sym, Contains-permutation}
use Rattle.std.proofs.lemmas.List.{get_or-map, length-map}
use Rattle.std.specs.FinMap.{get}
use Rattle.pb_lin.specs.Constraint.{ConstraintValue, IsMerged, literals}
use Rattle.clause_prop.specs.LineKinds.{IsClosedForWatched}
use Rattle.scut_base.specs.Literal.{Literal}
use Rattle.pb_lin.specs.LineMap.{LineMap}
use Rattle.clause_prop.specs.declared.step.Step.{Step}
use Rattle.watch_prop.specs.declared.watch_lists.Entry.{Entry}
use Rattle.watch_prop.specs.Slot.{Slot}
use Rattle.watch_prop.specs.declared.watches.Watches.{Watches}
use Rattle.watch_prop.specs.declared.watches.Visit.{Visit}
use Rattle.clause_prop.specs.Steps.{TrailValue, last_level, with_step}
use Rattle.clause_prop.specs.Propagating.{Extends, IsConflict, IsForcedStep}
use Rattle.watch_prop.specs.Watching.{IsKept, IsLooking, IsPut, IsSlot, clause_at, list_of, lits_of, with_lits}
use Rattle.watch_prop.proofs.WatchLists.{begins_after}
use Rattle.watch_prop.specs.Watches.{AreSlots, AreWatches, Hold, IsAllLooked, IsConflictOf, IsFollowed, IsReady, IsVisited}
use Rattle.clause_prop.proofs.Extensions.{extends_none, extends_step, extends_twice}
use Rattle.watch_prop.proofs.WatchKept.{kept_push, looking_swapped}
use Rattle.watch_prop.proofs.WatchHold.{hold_reordered}
use Rattle.watch_prop.proofs.WatchSteps.{closed_slot}

pub lits_pushed : (steps : List Step) (s : Step) → lits_of (steps ++ s ∷ []) ≡ lits_of steps ++ s.lit ∷ []
lits_pushed [] s = refl
lits_pushed (r ∷ steps) s = ap (λ (ls : List Literal). r.lit ∷ ls) (lits_pushed steps s)

pub lits_appended : (steps more : List Step) → lits_of (steps ++ more) ≡ lits_of steps ++ lits_of more
lits_appended [] more = refl
lits_appended (r ∷ steps) more = ap (λ (ls : List Literal). r.lit ∷ ls) (lits_appended steps more)

-- nothing changes
pub followed_none : (w : Watches) (t : TrailValue) → IsFollowed w w t t
followed_none w t = record { vars = refl; hold = λ lines h. h; extends = λ lines h. extends_none lines t }

-- the trail stays
pub followed_same : (before after : Watches) (t : TrailValue) → ((lines : LineMap) → Hold before lines → Hold after lines) → IsFollowed before after t t
followed_same before after t hold = record { vars = refl; hold = hold; extends = λ lines h. extends_none lines t }

-- a literal is forced
pub followed_step : (w : Watches) (t : TrailValue) (l : Literal) (id : ℕ) → ((lines : LineMap) → Hold w lines → IsForcedStep lines t.vars t.steps (record { lit = l; level = last_level t.steps; reason = id })) → IsFollowed w w t (with_step t (record { lit = l; level = last_level t.steps; reason = id }))
followed_step w t l id forced = record {
  vars = refl;
  hold = λ lines h. h;
  extends = λ lines h. extends_step lines t (record { lit = l; level = last_level t.steps; reason = id }) (forced lines h);
}

pub followed_twice : (a b c : Watches) (s t u : TrailValue) → IsFollowed a b s t → IsFollowed b c t u → IsFollowed a c s u
followed_twice a b c s t u one two = record {
  vars = two.vars ∙ one.vars;
  hold = λ lines h. two.hold lines (one.hold lines h);
  extends = λ lines h. extends_twice lines s t u (one.extends lines h) (two.extends lines (one.hold lines h));
}

-- the two watches of a clause are exchanged, or not
pub second_put : (own new : List Slot) (lists : List (List Entry)) (ends : List ℕ) (index : List ℕ) (n : ℕ) (trail : List Literal) (lit : Literal) (at slot : ℕ) → IsLooking own lists ends n trail lit at
    → (new ≡ own) ⊎ ((2 ≤ length (clause_at own slot)) × IsPut own new slot (with_lits own slot (swap (clause_at own slot) 0 1))) → IsLooking new lists ends n trail lit at × ((j : ℕ) → IsSlot own j → IsSlot new j) × ((lines : LineMap) → AreSlots own index lines → AreSlots new index lines)
second_put own new lists ends index n trail lit at slot looking which =
    let s : Slot = with_lits own slot (swap (clause_at own slot) 0 1) in
    elim which [
      | inl e ↦ (subst (λ o. IsLooking o lists ends n trail lit at) (sym e) looking, λ j h. subst (λ o. IsSlot o j) (sym e) h, λ lines h. subst (λ o. AreSlots o index lines) (sym e) h)
      | inr (long, put) ↦ (
        looking_swapped own new lists ends n trail lit at slot s put refl looking refl long,
        begins_after own new slot s put refl,
        λ lines h. hold_reordered own new index lines slot s put h refl (IsPermutation-swap (clause_at own slot) s.lits 0 1 (omega (arith, long)) (omega (arith, long)) refl),
      )
    ]

-- a visit after such an exchange
pub visited_after : (before mid after : Watches) (old new : TrailValue) (lit : Literal) (at : ℕ) (visit : Visit) → mid.lists.items ≡ before.lists.items → mid.ends.items ≡ before.ends.items → ((lines : LineMap) → Hold before lines → Hold mid lines) → IsVisited mid after old new lit at visit → IsVisited before after old new lit at visit
visited_after before mid after old new lit at visit lists ends hold visited = record {
  looking = visited.looking;
  left = ap (λ ls. length (list_of ls lit)) (sym lists) ∙ visited.left;
  ends = visited.ends ∙ ends;
  followed = followed_twice before mid after old old new (followed_same before mid old hold) visited.followed;
  rightly = visited.rightly;
}

pub if_ok_weaker : {X E : Type 0} {P Q : X → Type 0} (r : Result X E) → ((x : X) → P x → Q x) → IfOk r P → IfOk r Q
if_ok_weaker (Ok x) f h = f x h
if_ok_weaker (Err e) f h = h

pub on_err : {X E : Type 0} {P : Type 0} → P → (r : Result X E) → OnErr r P
on_err p (Ok x) = tt
on_err p (Err e) = p

pub lits_cut : (keep : ℕ) (steps : List Step) → lits_of (take keep steps) ≡ take keep (lits_of steps)
lits_cut zero steps = refl
lits_cut (suc keep) [] = refl
lits_cut (suc keep) (s ∷ steps) = ap (λ (ls : List Literal). s.lit ∷ ls) (lits_cut keep steps)

-- ---- the whole trail

pub none_weaker : {E : Type 0} {P Q : Type 0} (r : Result (Option ℕ) E) → (P → Q) → IfOk r (λ o. IfNone o P) → IfOk r (λ o. IfNone o Q)
none_weaker (Ok None) f h = f h
none_weaker (Ok (Some x)) f h = h
none_weaker (Err e) f h = h

-- a conflict is one of the lines that are held
pub conflict_in : {E : Type 0} (r : Result (Option ℕ) E) (w : Watches) (lines : LineMap) (t : TrailValue) → Hold w lines → IfOk r (λ o. IfSome o (IsConflictOf w t)) → IfOk r (λ o. IfSome o (IsConflict lines t))
conflict_in (Ok None) w lines t hold h = h
conflict_in (Ok (Some id)) w lines t hold h = h lines hold
conflict_in (Err e) w lines t hold h = h

-- where all steps were looked at, all clauses that are watched are closed
pub watched_closed : (w : Watches) (lines : LineMap) (t : TrailValue) → IsReady w t → Hold w lines → IsAllLooked w t → IsClosedForWatched lines t
watched_closed w lines t ready hold all id c there kind =
    let h = hold.held id c there kind in
    let s = hold.stored h.slot h.long in
    let same : s.line ≡ c = same_line s.line c (sym s.there ∙ ap (get lines) h.is ∙ there) in
    let lits = clause_at w.slots h.slot in
    let is_perm : IsPermutation (literals c.terms) lits = subst (λ (d : ConstraintValue). IsPermutation (literals d.terms) lits) same s.same in
    let merged : IsMerged c.terms = subst (λ (d : ConstraintValue). IsMerged d.terms) same s.merged in
    closed_slot w.slots w.lists.items w.ends.items t.vars t.steps c h.slot ready all.0 all.1 h.long kind is_perm (λ l among. positive_literal c.terms l merged (Contains-permutation _ _ l (IsPermutation-sym _ _ is_perm) among))
  where
    same_line : (a b : ConstraintValue) → Some a ≡ Some b → a ≡ b
    same_line a b e = cc

    positive_literal : (terms : List (Literal × ℕ)) (l : Literal) → IsMerged terms → Contains (literals terms) l → 0 < l.var
    positive_literal terms l merged (k, below, at) =
        let within : k < length terms = omega (arith, below, length-map terms (λ s. s.0)) in
        subst (λ (m : Literal). 0 < m.var) (sym (get_or-map (λ s. s.0) terms k (l, 1) l within) ∙ at) (merged.from_one k (l, 1) within)

-- steps that any lines force leave the watches in step
pub watches_extended : (w : Watches) (lines store : LineMap) (t u : TrailValue) → Extends store t u → AreWatches w lines t → AreWatches w lines u
unfolding AreWatches
watches_extended w lines store t u ext watches = (
  subst (λ (n : ℕ). IsKept w.slots w.lists.items w.ends.items n (lits_of u.steps)) (sym ext.vars)
      (subst (λ (ss : List Step). IsKept w.slots w.lists.items w.ends.items t.vars (lits_of ss)) (sym ext.is)
      (subst (λ (ls : List Literal). IsKept w.slots w.lists.items w.ends.items t.vars ls) (sym (lits_appended t.steps ext.more))
      (kept_push w.slots w.lists.items w.ends.items t.vars (lits_of t.steps) (lits_of ext.more) watches.0))),
  watches.1,
)
