-- Trails of a search that get steps which lines force.
use Rattle.std.proofs.Common.{◌≡◌, ℕ, ◌<◌, ◌≤◌, Bool, true, Option, Some, None, List, [], ◌∷◌, ◌++◌, length, refl, arith, ap, sym, ◌∙◌, subst, append_assoc}
use Rattle.std.specs.Option.{is_none}
use Rattle.std.specs.FinMap.{get}
use Rattle.std.proofs.lemmas.Bool.{and_parts}
use Rattle.std.proofs.lemmas.List.{append-nil}
use Rattle.std.proofs.lemmas.List.Elements.{All-contains}
use Rattle.std.proofs.lemmas.Option.{none-some}
use Rattle.scut_base.specs.Literal.{Literal}
use Rattle.scut_base.specs.Assignment.{partial_truth}
use Rattle.pb_lin.specs.Constraint.{ConstraintValue}
use Rattle.pb_lin.specs.LineMap.{LineMap}
use Rattle.clause_prop.specs.Steps.{TrailValue, partial, with_step}
use Rattle.clause_prop.specs.Propagating.{Forces, IsForcedStep, AreForced, Extends}
use Rattle.clause_prop.specs.declared.step.Step.{Step}
use Rattle.cdcl_trail.specs.SearchTrail.{AreLines, IsSearchTrail, IsLevelBefore}
use Rattle.cdcl_trail.proofs.Pushes.{pushed, cut_whole, last_before, last_top, last_low}

is_open : (o : Option Bool) → is_none o ≡ true → o ≡ None
is_open None e = refl
is_open (Some b) e = cc

-- a literal that a line forces is open, and within range
pub forced_open : (p : List (Option Bool)) (c : ConstraintValue) (l : Literal) → Forces p c l → partial_truth p l ≡ None
forced_open p c l forces = subst (λ (m : Literal). partial_truth p m ≡ None) forces.literal (is_open (partial_truth p forces.term.0) (and_parts _ _ forces.forced).0)

pub forced_range : (n : ℕ) (store : LineMap) (id : ℕ) (p : List (Option Bool)) (c : ConstraintValue) (l : Literal) → AreLines n store → get store id ≡ Some c → Forces p c l → (0 < l.var) × (l.var ≤ n)
forced_range n store id p c l lines there forces = (
  subst (λ (m : Literal). 0 < m.var) forces.literal (All-contains (λ (t : Literal × ℕ). 0 < t.0.var) c.terms forces.term (lines.normal id c there).merged.from_one forces.among),
  subst (λ (m : Literal). m.var ≤ n) forces.literal (All-contains (λ (t : Literal × ℕ). t.0.var ≤ n) c.terms forces.term (lines.variables id c there) forces.among),
)

pub forced_step : (store : LineMap) (t : TrailValue) (s : Step) → AreLines t.vars store → IsSearchTrail store t → IsForcedStep store t.vars t.steps s → IsSearchTrail store (with_step t s)
forced_step store t s lines search forced =
    let range = forced_range t.vars store s.reason (partial t) forced.line s.lit lines forced.there forced.forces in
    pushed store t s search range.0 range.1 (forced_open (partial t) forced.line s.lit forced.forces)
    (λ zero_reason. absurd (none-some forced.line (sym lines.no_zero ∙ ap (get store) (sym zero_reason) ∙ forced.there)))
    (λ some_reason. record {
      line = forced.line;
      there = forced.there;
      forces = subst (λ (u : TrailValue). Forces (partial u) forced.line s.lit) (sym (cut_whole t)) forced.forces;
      level = subst (IsLevelBefore t (length t.steps)) (sym forced.level) (last_before t);
    })
    (λ p r at. let top = last_top t.steps search.rising p r at in omega (arith, top, forced.level))
    (let low = last_low store t search in omega (arith, low, forced.level))

forced_steps : (store : LineMap) (t : TrailValue) (more : List Step) → AreLines t.vars store → IsSearchTrail store t → AreForced store t.vars t.steps more → IsSearchTrail store (record { vars = t.vars; steps = t.steps ++ more })
forced_steps store t [] lines search forced = subst (λ (ss : List Step). IsSearchTrail store (record { vars = t.vars; steps = ss })) (sym (append-nil t.steps)) search
forced_steps store t (s ∷ more) lines search forced =
    let first : IsForcedStep store t.vars t.steps s = subst (λ (ss : List Step). IsForcedStep store t.vars ss s) (append-nil t.steps) (forced [] s more refl) in
    subst (λ (ss : List Step). IsSearchTrail store (record { vars = t.vars; steps = ss })) (append_assoc t.steps (s ∷ []) more)
    (forced_steps store (with_step t s) more lines (forced_step store t s lines search first)
    (λ front r after e. subst (λ (ss : List Step). IsForcedStep store t.vars ss r) (sym (append_assoc t.steps (s ∷ []) front)) (forced (s ∷ front) r after (ap (λ (ss : List Step). s ∷ ss) e))))

pub propagation_law : (store : LineMap) (old new : TrailValue) → AreLines old.vars store → IsSearchTrail store old → Extends store old new → IsSearchTrail store new
propagation_law store old new lines search more =
    subst (λ (n : ℕ). IsSearchTrail store (record { vars = n; steps = new.steps })) (sym more.vars)
    (subst (λ (ss : List Step). IsSearchTrail store (record { vars = old.vars; steps = ss })) (sym more.is) (forced_steps store old more.more lines search more.forced))
