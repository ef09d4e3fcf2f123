-- Each line that is kept is legal under new ids.
use Rattle.std.specs.Prelude.{◌≡◌, ◌≢◌, ◌⊎◌, ℕ, ◌+◌, ◌^◌, ◌<◌, ◌==◌, Bool, true, false, not, cond, ◌&&◌, nat_eq, nat_le, nat_lt, Option, Some, None, option_map, unwrap_or, is_some, MatchOption, List, [], ◌∷◌, ◌++◌, map, length, All, Ok, Err, refl}
use Rattle.std.proofs.Common.{sym, ◌∙◌, ap, subst, inl, inr, arith}
use Rattle.std.specs.List.{find, flat_map}
use Rattle.std.specs.FinMap.{get}
use Rattle.std.proofs.lemmas.Bool.{cond-true, cond-false, eqb-true, eq-eqb, ne_eqb, le-leb, lt-ltb, ltb-true, and_parts, and_from}
use Rattle.std.proofs.lemmas.List.Elements.{All-nil, All-cons, All-head, All-tail}
use Rattle.scut_base.specs.Literal.{Literal}
use Rattle.pb_lin.specs.Constraint.{ConstraintValue, negation, size}
use Rattle.pb_lin.specs.CostRow.{CostRowValue}
use Rattle.pb_lin.specs.Problem.{ProblemValue}
use Rattle.cutting_planes.specs.Stack.{IsValueOn, Answer}
use Rattle.cutting_planes.specs.declared.token.PolToken.{PolToken}
use Rattle.hint_rup.specs.declared.hint.Hint.{Hint}
use Rattle.proof_laws.specs.State.{StateValue, IsState}
use Rattle.proof_laws.specs.Steps.{reached_if, reached_only_if}
use Rattle.proof_laws.specs.Substituted.{redundance, dominance}
use Rattle.proof_laws.specs.Refusal.{FirstOf, first_fault, fault_unless, size_fault, range_fault, written, term_variables, given_in, pol_fault, is_clause, line_or_none, Bounds, assignment_of, misplaced, broken_row, end_fault, deletion_fault, is_deletable, IsPolFault, IsRupFault, IsHintsFault, IsFirstGoalFault, IsCutFault, IsRuleFault, IsFault}
use Rattle.proof_laws.specs.declared.goal.Goal.{Goal}
use Rattle.proof_laws.specs.declared.goal.GoalProof.{GoalProof}
use Rattle.proof_laws.specs.declared.line.Line.{Line}
use Rattle.proof_laws.specs.declared.line.Line.TheVariants.{Pol, Rup, Learn, Def, Red, Dom, Sol, Del, Reduce, End}
use Rattle.proof_laws.specs.declared.why.Why.{Why}
use Rattle.proof_laws.specs.declared.why.Why.TheVariants.{AfterEnd, LogLong, NotFresh, NotClause, NotContradiction, CutOpen, NoSuchId, RupOpen, VarRange, SolRow}
use Rattle.proof_laws.proofs.NextCovers.{legal_parts}
use Rattle.command_trim.specs.Trimmed.{Renaming, new_id, id_or_same, in_front, new_ids, new_hints, new_token, new_proofs, new_line, ids_named, token_ids, hint_ids, proof_ids}
use Rattle.command_trim.specs.Simulation.{Simulates, IsCarried, AreCarried}
use Rattle.command_trim.proofs.Hints.{hints_simulated}
use Rattle.command_trim.proofs.Tokens.{value_simulated}
use Rattle.command_trim.proofs.Live.{one_id}
use Rattle.command_trim.proofs.Requirements.{redundance_met, dominance_met}
use Rattle.command_trim.proofs.WrittenVariables.{range_simulated}

first_mapped : (o : Option Why) (R S : Option Why → Type 0) → (R None → S None) → FirstOf o R None → FirstOf o S None
first_mapped None R S more is = more is
first_mapped (Some why) R S more is = is

no_first : (o : Option Why) (Rest : Option Why → Type 0) → o ≡ None → Rest None → FirstOf o Rest None
no_first o Rest none rest = subst (λ (first : Option Why). FirstOf first Rest None) (sym none) rest

unless_renamed : (b : Bool) (x y : Why) → None ≡ fault_unless b x → None ≡ fault_unless b y
unless_renamed true x y is = refl
unless_renamed false x y is = cc

passes : (b : Bool) (why : Why) → fault_unless b why ≡ None → b ≡ true
passes true why is = refl
passes false why is = cc

no_fault : (b : Bool) (why : Why) → b ≡ true → fault_unless b why ≡ None
no_fault b why is = ap (λ (a : Bool). fault_unless a why) is

none_some : (why : Why) → ◌≡◌ {A = Option Why} None (Some why) → ⊥
none_some why e = cc

-- all parts of ids that are carried
abbrev Carried : Renaming → StateValue → StateValue → ℕ → Type 0
Carried r s t id = (c : ConstraintValue) → get s.live id ≡ Some c → IsCarried r s t id c

prefix : {X : Type 0} (P : X → Type 0) (xs ys : List X) → All P (xs ++ ys) → All P xs
prefix P [] ys all = All-nil P
prefix P (x ∷ xs) ys all = All-cons P x xs (All-head P x (xs ++ ys) all) (prefix P xs ys (All-tail P x (xs ++ ys) all))

suffix : {X : Type 0} (P : X → Type 0) (xs ys : List X) → All P (xs ++ ys) → All P ys
suffix P [] ys all = all
suffix P (x ∷ xs) ys all = suffix P xs ys (All-tail P x (xs ++ ys) all)

of_each : {X : Type 0} (P : ℕ → Type 0) (f : X → List ℕ) (xs : List X) → All P (flat_map f xs) → All (λ x. All P (f x)) xs
of_each P f [] all = All-nil (λ x. All P (f x))
of_each P f (x ∷ xs) all = All-cons (λ y. All P (f y)) x xs (prefix P (f x) (flat_map f xs) all) (of_each P f xs (suffix P (f x) (flat_map f xs) all))

module _ (p : ProblemValue) (r : Renaming) (s t : StateValue) (sim : Simulates r s t) (state : IsState s) (rows : length p.rows ≡ r.rows) where
  positive : (id : ℕ) (c : ConstraintValue) → get s.live id ≡ Some c → 0 < id
  positive id c is = (state.ids id c is).0

  -- ---- the conditions of all lines

  open_still : fault_unless (not s.ended) AfterEnd ≡ None → fault_unless (not t.ended) AfterEnd ≡ None
  open_still none = ap (λ (b : Bool). fault_unless (not b) AfterEnd) sim.ended ∙ none

  short_still : fault_unless (nat_lt s.lines (2 ^ 61)) LogLong ≡ None → fault_unless (nat_lt t.lines (2 ^ 61)) LogLong ≡ None
  short_still none =
      let before : s.lines < 2 ^ 61 = ltb-true s.lines (2 ^ 61) (passes (nat_lt s.lines (2 ^ 61)) LogLong none) in
      no_fault (nat_lt t.lines (2 ^ 61)) LogLong (lt-ltb t.lines (2 ^ 61) (let few = sim.lines in omega arith))

  range_still : (line : Line) → range_fault s.vars (written line) ≡ None → range_fault t.vars (written (new_line r line)) ≡ None
  range_still line none = ap (λ (n : ℕ). range_fault n (written (new_line r line))) sim.vars ∙ range_simulated r s.vars line none

  -- ---- solutions

  same_line : (id : ℕ) → Carried r s t id → (c : ConstraintValue) → line_or_none s.live id ≡ Some c → line_or_none t.live (id_or_same r id) ≡ Some c
  same_line id carried c is = by_zero (nat_eq id 0) refl is
    where
      zero_same : id ≡ 0 → id_or_same r id ≡ 0
      zero_same e = ap (id_or_same r) e ∙ ap (λ (o : Option ℕ). unwrap_or o 0) (cond-true (nat_le 0 r.rows) (Some 0) _ (le-leb 0 r.rows (omega arith)))

      by_zero : (b : Bool) → nat_eq id 0 ≡ b → cond b (Some (record { terms = []; degree = 0 })) (get s.live id) ≡ Some c → line_or_none t.live (id_or_same r id) ≡ Some c
      by_zero true test found =
          ap (line_or_none t.live) (zero_same (eqb-true id 0 test)) ∙ found
      by_zero false test found =
          let there = carried c found in
          let new : id_or_same r id ≡ there.new = ap (λ (o : Option ℕ). unwrap_or o id) there.is in
          let some : there.new ≢ 0 = λ e. (let zero' : new_id r 0 ≡ Some 0 = cond-true (nat_le 0 r.rows) (Some 0) _ (le-leb 0 r.rows (omega arith)) in
          let same : id ≡ 0 = one_id r s.next_id t.next_id sim.renaming id 0 there.new there.is (zero' ∙ ap Some (sym e)) in
          let both : true ≡ false = sym (eq-eqb id 0 same) ∙ test in
          cc) in
          ap (line_or_none t.live) new ∙ cond-false (nat_eq there.new 0) (Some (record { terms = []; degree = 0 })) (get t.live there.new) (ne_eqb there.new 0 some) ∙ there.there

  cut_simulated : (cut : List Literal) (a : List Bool) (i : ℕ) (rs : List CostRowValue) (ids : List ℕ) → AreCarried r s t ids → IsCutFault s.live cut a i rs ids None → IsCutFault t.live cut a i rs (map (id_or_same r) ids) None
  cut_simulated cut a i [] [] carried is = refl
  cut_simulated cut a i [] (id ∷ ids) carried is = cc
  cut_simulated cut a i (row ∷ rs) [] carried is = cc
  cut_simulated cut a i (row ∷ rs) (id ∷ ids) carried is =
      by_line (line_or_none s.live id) refl is (cut_simulated cut a (i + 1) rs ids (All-tail (Carried r s t) id ids carried))
    where
      by_line : (o : Option ConstraintValue) → line_or_none s.live id ≡ o
          → MatchOption o (◌≡◌ {A = Option Why} None (Some (NoSuchId id))) (λ c. (Bounds cut a c row × IsCutFault s.live cut a (i + 1) rs ids None) ⊎ ((Bounds cut a c row → ⊥) × (◌≡◌ {A = Option Why} None (Some (CutOpen i)))))
          → (IsCutFault s.live cut a (i + 1) rs ids None → IsCutFault t.live cut a (i + 1) rs (map (id_or_same r) ids) None)
          → IsCutFault t.live cut a i (row ∷ rs) (map (id_or_same r) (id ∷ ids)) None
      by_line None found missing rest = cc
      by_line (Some c) found judged rest =
          let new = same_line id (All-head (Carried r s t) id ids carried) c found in
          subst (λ (o : Option ConstraintValue). MatchOption o (◌≡◌ {A = Option Why} None (Some (NoSuchId (id_or_same r id)))) (λ d. (Bounds cut a d row × IsCutFault t.live cut a (i + 1) rs (map (id_or_same r) ids) None) ⊎ ((Bounds cut a d row → ⊥) × (◌≡◌ {A = Option Why} None (Some (CutOpen i)))))) (sym new)
          (elim judged [
            | inl bounds ↦ inl (bounds.0, rest bounds.1)
            | inr open' ↦ absurd (none_some (CutOpen i) open'.1)
          ])

  -- ---- deletions and the end

  deletable : (id : ℕ) → is_deletable p s id ≡ true → (new : ℕ) → new_id r id ≡ Some new → is_deletable p t new ≡ true
  deletable id old new is =
      let parts = and_parts _ _ old in
      let above : length p.rows < id = ltb-true (length p.rows) id parts.0 in
      let row : new_id r r.rows ≡ Some r.rows = cond-true (nat_le r.rows r.rows) (Some r.rows) _ (le-leb r.rows r.rows (omega arith)) in
      let more : r.rows < new = sim.renaming.rising r.rows id r.rows new row is (omega arith) in
      and_from _ _ (lt-ltb (length p.rows) new (omega arith)) (ap is_some (sim.live.kept id new is) ∙ parts.1)

  none_by_test : (b : Bool) (id : ℕ) (rest : Option ℕ) → option_map NoSuchId (cond (not b) (Some id) rest) ≡ None → (b ≡ true) × (option_map NoSuchId rest ≡ None)
  none_by_test true id rest is = (refl, is)
  none_by_test false id rest is = cc

  deletion_simulated : (ids : List ℕ) → deletion_fault p s ids ≡ None → deletion_fault p t (new_ids r ids) ≡ None
  deletion_simulated [] is = refl
  deletion_simulated (id ∷ ids) is =
      let parts = none_by_test (is_deletable p s id) id (find (λ i. not (is_deletable p s i)) ids) is in
      by_new (new_id r id) refl parts.0 (deletion_simulated ids parts.1)
    where
      by_new : (o : Option ℕ) → new_id r id ≡ o → is_deletable p s id ≡ true → deletion_fault p t (new_ids r ids) ≡ None → deletion_fault p t (in_front (new_id r id) (new_ids r ids)) ≡ None
      by_new None at old rest = ap (λ (o : Option ℕ). deletion_fault p t (in_front o (new_ids r ids))) at ∙ rest
      by_new (Some new) at old rest =
          ap (λ (o : Option ℕ). deletion_fault p t (in_front o (new_ids r ids))) at
          ∙ ap (λ (b : Bool). option_map NoSuchId (cond (not b) (Some new) (find (λ i. not (is_deletable p t i)) (new_ids r ids)))) (deletable id old new at)
          ∙ rest

  end_simulated : (id : ℕ) → Carried r s t id → None ≡ end_fault (get s.live id) id → None ≡ end_fault (get t.live (id_or_same r id)) (id_or_same r id)
  end_simulated id carried is = by_line (get s.live id) refl is
    where
      by_line : (o : Option ConstraintValue) → get s.live id ≡ o → None ≡ end_fault o id → None ≡ end_fault (get t.live (id_or_same r id)) (id_or_same r id)
      by_line None found missing = cc
      by_line (Some c) found judged =
          let there = carried c found in
          let here : get t.live (id_or_same r id) ≡ Some c = ap (λ (o : Option ℕ). get t.live (unwrap_or o id)) there.is ∙ there.there in
          subst (λ (o : Option ConstraintValue). None ≡ end_fault o (id_or_same r id)) (sym here) (unless_renamed (length c.terms == 0 && nat_lt 0 c.degree) (NotContradiction id) (NotContradiction (id_or_same r id)) judged)

  -- ---- definitions

  abbrev def_at : ℕ → ℕ → ConstraintValue → Option Why
  def_at n var sum = first_fault (fault_unless (var == n + 1) (NotFresh var)) (first_fault (range_fault n (term_variables sum.terms)) (first_fault (size_fault (size (reached_if var sum))) (size_fault (size (reached_only_if var sum)))))

  -- ---- tokens, hints, substitutions

  pol_simulated : (tokens : List PolToken) → AreCarried r s t (flat_map token_ids tokens) → IsPolFault s tokens None → IsPolFault t (map (new_token r) tokens) None
  pol_simulated tokens carried fault = by_answer fault.0 fault.1 fault.2
    where
      by_answer : (answer : Answer) → IsValueOn (given_in s None None) [] tokens answer → None ≡ pol_fault answer → IsPolFault t (map (new_token r) tokens) None
      by_answer (Ok c) value none = (Ok c, value_simulated r s t None None tokens [] c carried value, refl)
      by_answer (Err f) value none = cc

  rup_simulated : (goal : ConstraintValue) (hints : List Hint) → AreCarried r s t (flat_map hint_ids hints) → IsRupFault s goal hints None → IsRupFault t goal (new_hints r hints) None
  rup_simulated goal hints carried = first_mapped (size_fault (size (negation goal))) (IsHintsFault s (negation goal) None hints RupOpen) (IsHintsFault t (negation goal) None (new_hints r hints) RupOpen)
      (hints_simulated r s t (negation goal) None hints RupOpen RupOpen sim.vars carried)

  proofs_carried : (proofs : List (Goal × GoalProof)) → AreCarried r s t (flat_map (λ q. proof_ids q.1) proofs) → All (λ x. AreCarried r s t (proof_ids x.1)) proofs
  proofs_carried proofs carried = of_each (Carried r s t) (λ (q : Goal × GoalProof). proof_ids q.1) proofs carried

  rule_simulated : (line : Line) → AreCarried r s t (ids_named line) → IsRuleFault p s line None → IsRuleFault p t (new_line r line) None
  rule_simulated (Pol tokens) carried is = pol_simulated tokens carried is
  rule_simulated (Rup goal hints) carried is = rup_simulated goal hints carried is
  rule_simulated (Learn goal hints) carried is = first_mapped (fault_unless (is_clause goal) NotClause) (IsRupFault s goal hints) (IsRupFault t goal (new_hints r hints)) (rup_simulated goal hints carried) is
  rule_simulated (Def var sum) carried is = is ∙ ap (λ (n : ℕ). def_at n var sum) (sym sim.vars)
  rule_simulated (Red goal w proofs) carried is =
      first_mapped (size_fault (size (negation goal))) (IsFirstGoalFault s goal proofs (redundance p s w goal)) (IsFirstGoalFault t goal (new_proofs r proofs) (redundance p t w goal))
      (redundance_met r s.next_id t.next_id sim.renaming s t sim.vars positive goal proofs (proofs_carried proofs carried) sim.live w p) is
  rule_simulated (Dom goal w proofs) carried is =
      first_mapped (size_fault (size (negation goal))) (IsFirstGoalFault s goal proofs (dominance p w)) (IsFirstGoalFault t goal (new_proofs r proofs) (dominance p w))
      (dominance_met r s.next_id t.next_id sim.renaming s t sim.vars positive goal proofs (proofs_carried proofs carried) p w rows) is
  rule_simulated (Sol model cut ids) carried is =
      first_mapped (option_map VarRange (misplaced 1 p.vars model)) _ _ (first_mapped (option_map SolRow (broken_row (assignment_of model) p.rows)) _ _
      (λ rest. subst (λ (n : ℕ). FirstOf (range_fault n (map (λ (l : Literal). l.var) cut)) (IsCutFault t.live cut (assignment_of model) 1 p.costs (map (id_or_same r) ids)) None) (sym sim.vars)
      (first_mapped (range_fault s.vars (map (λ (l : Literal). l.var) cut)) (IsCutFault s.live cut (assignment_of model) 1 p.costs ids) (IsCutFault t.live cut (assignment_of model) 1 p.costs (map (id_or_same r) ids))
      (cut_simulated cut (assignment_of model) 1 p.costs ids carried) rest))) is
  rule_simulated (Del ids) carried is = sym (deletion_simulated ids (sym is))
  rule_simulated (Reduce ids) carried is = sym (deletion_simulated ids (sym is))
  rule_simulated (End id) carried is = end_simulated id (All-head (Carried r s t) id [] carried) is

  -- a legal line that names what is carried is legal under new ids
  pub legal_simulated : (line : Line) → AreCarried r s t (ids_named line) → IsFault p s line None → IsFault p t (new_line r line) None
  legal_simulated line carried legal =
      let parts = legal_parts p s line legal in
      let new : Line = new_line r line in
      no_first (fault_unless (not t.ended) AfterEnd) (FirstOf (fault_unless (nat_lt t.lines (2 ^ 61)) LogLong) (FirstOf (range_fault t.vars (written new)) (IsRuleFault p t new))) (open_still parts.open')
      (no_first (fault_unless (nat_lt t.lines (2 ^ 61)) LogLong) (FirstOf (range_fault t.vars (written new)) (IsRuleFault p t new)) (short_still parts.short)
      (no_first (range_fault t.vars (written new)) (IsRuleFault p t new) (range_still line parts.range) (rule_simulated line carried parts.rule)))
