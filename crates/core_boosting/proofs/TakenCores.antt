-- Cores that are taken up, one after the other.
use Rattle.std.proofs.Common.{◌≡◌, ℕ, Option, None, Some, Ok, refl}
use Rattle.std.specs.Prelude.{MatchOption}
use Rattle.proof_rules.specs.Recording.{Snapshot}
use Rattle.sum_outputs.specs.Adding.{Continues}
use Rattle.totalizer.specs.declared.reform.Reform.{Reform}
use Rattle.search_base.proofs.TurnLines.{own_law}
use Rattle.core_boosting.specs.Boosting.{BoostsOn, MayBoost}
use Rattle.core_boosting.specs.Exchanging.{IsOfRow, KeepsRow}
use Rattle.core_boosting.proofs.Calls.{boosts_after, boosts_recorded, boosts_same}
use Rattle.core_boosting.proofs.TakenUp.{exactly_kept}

-- calls so far, and the objective in other terms
pub record TakesUp (a b : Snapshot) (before now : Reform) : Type 0 where
  pub boosts : BoostsOn {T = Unit {0}} a b (Ok tt)
  pub keeps : KeepsRow a b before now

pub takes_none : (a : Snapshot) (r : Reform) → MayBoost a → TakesUp a a r r
takes_none a r may = record { boosts = boosts_same a tt may; keeps = λ row is. is }

-- ---- an oracle's call

asked_keeps : {T : Type 0} (a b : Snapshot) (x : T) (r : Reform) → MayBoost a → BoostsOn {T = T} a b (Ok x) → KeepsRow a b r r
asked_keeps a b x r may call row is = exactly_kept a b may.ready.state call.goes_on.problem
    (own_law a.problem a.lines b.lines call.goes_on.lines) may.ready.reached row r is

pub takes_asked : {T : Type 0} (a b e : Snapshot) (x : T) (before now : Reform) → TakesUp a b before now → BoostsOn {T = T} b e (Ok x) → TakesUp a e before now
takes_asked a b e x before now takes call = record {
  boosts = boosts_after a b e tt (Ok tt) takes.boosts (record { may = λ order. call.may tt; none = call.none; fault = tt; goes_on = call.goes_on });
  keeps = λ row is. asked_keeps b e x now (takes.boosts.may tt) call row (takes.keeps row is);
}

-- ---- a core

pub takes_more : (a b e : Snapshot) (before now then : Reform) → TakesUp a b before now → Continues b e → MayBoost e → KeepsRow b e now then → TakesUp a e before then
takes_more a b e before now then takes on may keeps = record {
  boosts = boosts_after a b e tt (Ok tt) takes.boosts (boosts_recorded b e tt on may);
  keeps = λ row is. keeps row (takes.keeps row is);
}

pub of_row : (a b : Snapshot) (before now : Reform) → KeepsRow a b before now → IsOfRow a before → IsOfRow b now
of_row a b before now keeps (row, is) = (row, keeps row is)

-- where nothing is found
pub none_found : (o : Option ℕ) (P : Type 0) (Q : ℕ → Type 0) → MatchOption o P Q → ((x : ℕ) → o ≡ Some x → ⊥) → P
none_found None P Q is none = is
none_found (Some x) P Q is none = absurd (none x refl)
