-- The states after a line that is kept, and after one that is dropped.
use Rattle.std.specs.Prelude.{◌≡◌, ℕ, ◌+◌, ◌<◌, Bool, true, false, not, cond, ◌||◌, nat_eq, nat_le, Option, Some, None, option_map, List, [], ◌∷◌, ◌++◌, length, All, Contains, ℤ, refl}
use Rattle.std.proofs.Common.{sym, ◌∙◌, ap, subst, arith}
use Rattle.std.specs.List.{find, list_any}
use Rattle.std.specs.Map.{lookup}
use Rattle.std.specs.FinMap.{insert}
use Rattle.std.proofs.lemmas.Bool.{eqb-true, ltb-true, leb-true, and_parts}
use Rattle.std.proofs.lemmas.List.Elements.{All-nil, All-cons, All-append, All-weaker, Contains-append_left, Contains-append_right}
use Rattle.scut_base.proofs.Lists.{Contains-head}
use Rattle.scut_base.specs.Literal.{Literal}
use Rattle.pb_lin.specs.Constraint.{ConstraintValue}
use Rattle.pb_lin.specs.Problem.{ProblemValue, problem_costs}
use Rattle.proof_laws.specs.State.{StateValue, IsState}
use Rattle.proof_laws.specs.Steps.{with_line, with_learned, with_definition, with_solution, without_lines, with_end, clause, reached_if, reached_only_if}
use Rattle.proof_laws.specs.Refusal.{assignment_of, is_deletable, deletion_fault}
use Rattle.proof_laws.specs.Legal.{IsLegal, IsNext, Makes}
use Rattle.proof_laws.specs.declared.line.Line.{Line}
use Rattle.proof_laws.specs.declared.line.Line.TheVariants.{Pol, Rup, Learn, Def, Red, Dom, Sol, Del, Reduce, End}
use Rattle.proof_laws.specs.declared.why.Why.TheVariants.{NoSuchId}
use Rattle.proof_laws.proofs.NextCovers.{legal_parts}
use Rattle.command_trim.specs.Trimmed.{Renaming, new_id, new_ids, new_line, is_in, is_needed, holds_made, renamed_after, stays, ids_named}
use Rattle.command_trim.specs.Simulation.{IsRenaming, Carries, Simulates, AreCarried}
use Rattle.command_trim.proofs.Tokens.{value_simulated}
use Rattle.command_trim.proofs.Live.{with_id, longer_renaming, later_renaming, put_both, put_old, remove_both, remove_old}
use Rattle.command_trim.proofs.Lines.{legal_simulated}

plus_two : (n : ℕ) → (n + 1) + 1 ≡ n + 2
plus_two n = omega arith

plus_none : (n : ℕ) → n + 0 ≡ n
plus_none n = omega arith

more_contains : (xs : List (List ℤ)) (v : List ℤ) (ys : List (List ℤ)) → All (Contains xs) ys → All (Contains (xs ++ v ∷ [])) ys
more_contains xs v ys all = All-weaker (Contains xs) (Contains (xs ++ v ∷ [])) (λ y there. Contains-append_left xs (v ∷ []) y there) ys all

-- an id that is none of the made ones has no new one
no_new : (x y : ℕ) (es : List (ℕ × ℕ)) → list_any (λ (e : ℕ × ℕ). nat_eq x e.0) es ≡ false → lookup (nat_eq x) es ≡ Some y → ⊥
no_new x y [] free found = cc
no_new x y (e ∷ es) free found = by_test (nat_eq x e.0) free found (no_new x y es)
  where
    by_test : (b : Bool) → (b || list_any (λ (f : ℕ × ℕ). nat_eq x f.0) es) ≡ false → cond b (Some e.1) (lookup (nat_eq x) es) ≡ Some y → (list_any (λ (f : ℕ × ℕ). nat_eq x f.0) es ≡ false → lookup (nat_eq x) es ≡ Some y → ⊥) → ⊥
    by_test true taken here rest = cc
    by_test false others later rest = rest others later

module _ (r : Renaming) (s t : StateValue) (sim : Simulates r s t) where
  abbrev longer : Renaming
  longer = with_id r s.next_id t.next_id

  -- both make a line
  line_both : (c : ConstraintValue) → Simulates longer (with_line s c) (with_line t c)
  line_both c = record {
    renaming = longer_renaming r s.next_id t.next_id sim.renaming;
    live = put_both r s.next_id t.next_id sim.renaming s.live t.live c sim.live;
    vars = sim.vars;
    ended = sim.ended;
    lines = (let few = sim.lines in omega arith);
    sols = sim.sols;
  }

  learned_both : (c : ConstraintValue) → Simulates longer (with_learned s c) (with_learned t c)
  learned_both c = let both = line_both c in record { renaming = both.renaming; live = both.live; vars = both.vars; ended = both.ended; lines = both.lines; sols = both.sols }

  solution_both : (cut : List Literal) (costs : List ℤ) → Simulates longer (with_solution s cut costs) (with_solution t cut costs)
  solution_both cut costs =
      let both = line_both (clause cut) in
      record {
        renaming = both.renaming;
        live = both.live;
        vars = both.vars;
        ended = both.ended;
        lines = both.lines;
        sols = All-append (Contains (s.sols ++ costs ∷ [])) t.sols (costs ∷ []) (more_contains s.sols costs t.sols sim.sols)
            (All-cons (Contains (s.sols ++ costs ∷ [])) costs [] (Contains-append_right s.sols (costs ∷ []) costs (Contains-head costs [])) (All-nil (Contains (s.sols ++ costs ∷ []))));
      }

  abbrev longest : Renaming
  longest = with_id longer (s.next_id + 1) (t.next_id + 1)

  definition_both : (sum : ConstraintValue) → Simulates longest (with_definition s sum) (with_definition t sum)
  definition_both sum =
      let one = longer_renaming r s.next_id t.next_id sim.renaming in
      let first = put_both r s.next_id t.next_id sim.renaming s.live t.live (reached_if (s.vars + 1) sum) sim.live in
      let second = put_both longer (s.next_id + 1) (t.next_id + 1) one (insert s.live s.next_id (reached_if (s.vars + 1) sum)) (insert t.live t.next_id (reached_if (s.vars + 1) sum)) (reached_only_if (s.vars + 1) sum) first in
      record {
        renaming = subst (λ (k : ℕ). IsRenaming longest (s.next_id + 2) k) (plus_two t.next_id) (subst (λ (n : ℕ). IsRenaming longest n ((t.next_id + 1) + 1)) (plus_two s.next_id) (longer_renaming longer (s.next_id + 1) (t.next_id + 1) one));
        live = subst (λ (v : ℕ). Carries longest (insert (insert s.live s.next_id (reached_if (s.vars + 1) sum)) (s.next_id + 1) (reached_only_if (s.vars + 1) sum)) (insert (insert t.live t.next_id (reached_if (v + 1) sum)) (t.next_id + 1) (reached_only_if (v + 1) sum))) (sym sim.vars) second;
        vars = ap (λ (v : ℕ). v + 1) sim.vars;
        ended = sim.ended;
        lines = (let few = sim.lines in omega arith);
        sols = sim.sols;
      }

  without_both : (ids : List ℕ) → Simulates r (without_lines s ids) (without_lines t (new_ids r ids))
  without_both ids = record {
    renaming = subst (λ (k : ℕ). IsRenaming r (s.next_id + 0) k) (sym (plus_none t.next_id)) (subst (λ (n : ℕ). IsRenaming r n t.next_id) (sym (plus_none s.next_id)) sim.renaming);
    live = remove_both r s.next_id t.next_id s.live t.live ids sim.renaming sim.live;
    vars = sim.vars;
    ended = sim.ended;
    lines = (let few = sim.lines in omega arith);
    sols = sim.sols;
  }

  end_both : Simulates r (with_end s) (with_end t)
  end_both = record {
    renaming = subst (λ (k : ℕ). IsRenaming r (s.next_id + 0) k) (sym (plus_none t.next_id)) (subst (λ (n : ℕ). IsRenaming r n t.next_id) (sym (plus_none s.next_id)) sim.renaming);
    live = sim.live;
    vars = sim.vars;
    ended = refl;
    lines = (let few = sim.lines in omega arith);
    sols = sim.sols;
  }

  -- the old one alone makes a line
  line_old : (c : ConstraintValue) → Simulates r (with_line s c) t
  line_old c = record {
    renaming = later_renaming r s.next_id t.next_id sim.renaming (s.next_id + 1) (omega arith);
    live = put_old r s.next_id t.next_id sim.renaming s.live t.live c sim.live;
    vars = sim.vars;
    ended = sim.ended;
    lines = (let few = sim.lines in omega arith);
    sols = sim.sols;
  }

  learned_old : (c : ConstraintValue) → Simulates r (with_learned s c) t
  learned_old c = let old = line_old c in record { renaming = old.renaming; live = old.live; vars = old.vars; ended = old.ended; lines = old.lines; sols = old.sols }

  solution_old : (cut : List Literal) (costs : List ℤ) → Simulates r (with_solution s cut costs) t
  solution_old cut costs =
      let old = line_old (clause cut) in
      record { renaming = old.renaming; live = old.live; vars = old.vars; ended = old.ended; lines = old.lines; sols = more_contains s.sols costs t.sols sim.sols }

  without_old : (ids : List ℕ) → ((id new : ℕ) → new_id r id ≡ Some new → is_in id ids ≡ false) → Simulates r (without_lines s ids) t
  without_old ids none = record {
    renaming = subst (λ (n : ℕ). IsRenaming r n t.next_id) (sym (plus_none s.next_id)) sim.renaming;
    live = remove_old r s.live t.live ids none sim.live;
    vars = sim.vars;
    ended = sim.ended;
    lines = (let few = sim.lines in omega arith);
    sols = sim.sols;
  }

-- ---- by kinds of lines

-- a next state of the new proof, which simulates that of the old one
pub record IsKeptNext (p : ProblemValue) (r : Renaming) (s' t : StateValue) (line : Line) (longer : Renaming) : Type 0 where
  pub state : StateValue
  pub next : IsNext p t (new_line r line) state
  pub sim : Simulates longer s' state

module _ (p : ProblemValue) (r : Renaming) (s t s' : StateValue) (sim : Simulates r s t) (state : IsState s) (rows : length p.rows ≡ r.rows) where
  abbrev After : Line → Type 0
  After line = IsKeptNext p r s' t line (renamed_after r line s.next_id t.next_id)

  made : (line : Line) (longer : Renaming) (u v : StateValue) → s' ≡ u → IsLegal p t (new_line r line) → Makes p t (new_line r line) v → Simulates longer u v → IsKeptNext p r s' t line longer
  made line longer u v is legal makes both = record { state = v; next = record { legal = legal; makes = makes }; sim = subst (λ (x : StateValue). Simulates longer x v) (sym is) both }

  pub kept_next : (line : Line) → AreCarried r s t (ids_named line) → IsNext p s line s' → After line
  kept_next (Pol tokens) carried next =
      let m = next.makes in
      let value = value_simulated r s t None None tokens [] m.0 carried m.1 in
      made (Pol tokens) (with_id r s.next_id t.next_id) (with_line s m.0) (with_line t m.0) m.2 (legal_simulated p r s t sim state rows (Pol tokens) carried next.legal) (m.0, value, refl) (line_both r s t sim m.0)
  kept_next (Rup goal hints) carried next = made (Rup goal hints) (with_id r s.next_id t.next_id) (with_line s goal) (with_line t goal) next.makes (legal_simulated p r s t sim state rows (Rup goal hints) carried next.legal) refl (line_both r s t sim goal)
  kept_next (Learn goal hints) carried next = made (Learn goal hints) (with_id r s.next_id t.next_id) (with_learned s goal) (with_learned t goal) next.makes (legal_simulated p r s t sim state rows (Learn goal hints) carried next.legal) refl (learned_both r s t sim goal)
  kept_next (Def var sum) carried next = made (Def var sum) _ (with_definition s sum) (with_definition t sum) next.makes (legal_simulated p r s t sim state rows (Def var sum) carried next.legal) refl (definition_both r s t sim sum)
  kept_next (Red goal w proofs) carried next = made (Red goal w proofs) (with_id r s.next_id t.next_id) (with_line s goal) (with_line t goal) next.makes (legal_simulated p r s t sim state rows (Red goal w proofs) carried next.legal) refl (line_both r s t sim goal)
  kept_next (Dom goal w proofs) carried next = made (Dom goal w proofs) (with_id r s.next_id t.next_id) (with_line s goal) (with_line t goal) next.makes (legal_simulated p r s t sim state rows (Dom goal w proofs) carried next.legal) refl (line_both r s t sim goal)
  kept_next (Sol model cut ids) carried next =
      let costs = problem_costs p (assignment_of model) in
      made (Sol model cut ids) (with_id r s.next_id t.next_id) (with_solution s cut costs) (with_solution t cut costs) next.makes (legal_simulated p r s t sim state rows (Sol model cut ids) carried next.legal) refl (solution_both r s t sim cut costs)
  kept_next (Del ids) carried next = made (Del ids) r (without_lines s ids) (without_lines t (new_ids r ids)) next.makes (legal_simulated p r s t sim state rows (Del ids) carried next.legal) refl (without_both r s t sim ids)
  kept_next (Reduce ids) carried next = made (Reduce ids) r (without_lines s ids) (without_lines t (new_ids r ids)) next.makes (legal_simulated p r s t sim state rows (Reduce ids) carried next.legal) refl (without_both r s t sim ids)
  kept_next (End id) carried next = made (End id) r (with_end s) (with_end t) next.makes (legal_simulated p r s t sim state rows (End id) carried next.legal) refl (end_both r s t sim)

  -- ---- lines that are dropped

  or_parts : (a b : Bool) → (a || b) ≡ false → (a ≡ false) × (b ≡ false)
  or_parts true b is = cc
  or_parts false b is = (refl, is)

  none_by_test : (b : Bool) (id : ℕ) (rest : Option ℕ) → option_map NoSuchId (cond (not b) (Some id) rest) ≡ None → (b ≡ true) × (option_map NoSuchId rest ≡ None)
  none_by_test true id rest is = (refl, is)
  none_by_test false id rest is = cc

  -- an id with a new one is none of those that are deleted where none of these was made by a kept line
  apart : (ids : List ℕ) → holds_made r ids ≡ false → deletion_fault p s ids ≡ None → (id new : ℕ) → new_id r id ≡ Some new → is_in id ids ≡ false
  apart [] none legal id new is = refl
  apart (i ∷ ids) none legal id new is =
      let parts = or_parts (list_any (λ (e : ℕ × ℕ). nat_eq i e.0) r.made) (holds_made r ids) none in
      let deletable = none_by_test (is_deletable p s i) i (find (λ j. not (is_deletable p s j)) ids) legal in
      let above : length p.rows < i = ltb-true (length p.rows) i (and_parts _ _ deletable.0).0 in
      ap (λ (b : Bool). b || is_in id ids) (by_test (nat_eq id i) refl above parts.0) ∙ apart ids parts.1 deletable.1 id new is
    where
      by_row : (b : Bool) (x : ℕ) → nat_le x r.rows ≡ b → length p.rows < x → list_any (λ (e : ℕ × ℕ). nat_eq x e.0) r.made ≡ false → cond b (Some x) (lookup (nat_eq x) r.made) ≡ Some new → ⊥
      by_row true x test above free found = let low = leb-true x r.rows test in omega arith
      by_row false x test above free found = no_new x new r.made free found

      by_test : (b : Bool) → nat_eq id i ≡ b → length p.rows < i → list_any (λ (e : ℕ × ℕ). nat_eq i e.0) r.made ≡ false → b ≡ false
      by_test false test above free = refl
      by_test true test above free =
          let same : id ≡ i = eqb-true id i test in
          absurd (by_row (nat_le i r.rows) i refl above free (ap (new_id r) (sym same) ∙ is))

  old_makes : (line : Line) (u : StateValue) → s' ≡ u → Simulates r u t → Simulates r s' t
  old_makes line u is old = subst (λ (x : StateValue). Simulates r x t) (sym is) old

  pub dropped_next : (line : Line) (need : Bool) → (need ≡ false → is_needed s.next_id line [] ≡ false) → stays r need line ≡ false → IsNext p s line s' → Simulates r s' t
  dropped_next (Pol tokens) need def none next = old_makes (Pol tokens) (with_line s next.makes.0) next.makes.2 (line_old r s t sim next.makes.0)
  dropped_next (Rup goal hints) need def none next = old_makes (Rup goal hints) (with_line s goal) next.makes (line_old r s t sim goal)
  dropped_next (Learn goal hints) need def none next = old_makes (Learn goal hints) (with_learned s goal) next.makes (learned_old r s t sim goal)
  dropped_next (Def var sum) need def none next = let never : true ≡ false = def none in cc
  dropped_next (Red goal w proofs) need def none next = old_makes (Red goal w proofs) (with_line s goal) next.makes (line_old r s t sim goal)
  dropped_next (Dom goal w proofs) need def none next = old_makes (Dom goal w proofs) (with_line s goal) next.makes (line_old r s t sim goal)
  dropped_next (Sol model cut ids) need def none next = old_makes (Sol model cut ids) (with_solution s cut (problem_costs p (assignment_of model))) next.makes (solution_old r s t sim cut (problem_costs p (assignment_of model)))
  dropped_next (Del ids) need def none next = old_makes (Del ids) (without_lines s ids) next.makes (without_old r s t sim ids (apart ids none (sym (legal_parts p s (Del ids) next.legal).rule)))
  dropped_next (Reduce ids) need def none next = old_makes (Reduce ids) (without_lines s ids) next.makes (without_old r s t sim ids (apart ids none (sym (legal_parts p s (Reduce ids) next.legal).rule)))
  dropped_next (End id) need def none next = let never : true ≡ false = def none in cc
