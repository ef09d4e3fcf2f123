-- Goals of substitutions, and their proofs, under new ids.
use Rattle.std.specs.Prelude.{◌≡◌, ◌≢◌, ◌⊎◌, ℕ, ◌*◌, ◌<◌, Bool, true, false, cond, ◌&&◌, ◌||◌, nat_eq, nat_le, nat_lt, Option, Some, None, option_map, unwrap_or, MatchOption, List, [], ◌∷◌, map, All, Ok, Err, refl}
use Rattle.std.proofs.Common.{sym, ◌∙◌, ap, subst, inl, inr, arith}
use Rattle.std.specs.List.{filter, find, flat_map, list_any, list_all}
use Rattle.std.specs.Map.{lookup}
use Rattle.std.specs.FinMap.{get}
use Rattle.std.proofs.lemmas.Bool.{cases_order, cond-true, cond-false, eqb-true, eq-eqb, ne_eqb, le-leb, and_parts, and_from}
use Rattle.std.proofs.lemmas.List.Elements.{All-nil, All-cons, All-head, All-tail}
use Rattle.pb_lin.specs.Constraint.{ConstraintValue, negation, size, total}
use Rattle.cutting_planes.specs.Stack.{token_fault, named_fault, IsValueOn, Answer}
use Rattle.cutting_planes.specs.declared.token.PolToken.{PolToken}
use Rattle.cutting_planes.specs.declared.token.PolToken.TheVariants.{Id as IdToken, Axiom, Negated, Denied, Add, Mul, Div, Saturate, Weaken}
use Rattle.cutting_planes.specs.declared.fault.PolFault.{PolFault}
use Rattle.proof_laws.specs.State.{StateValue}
use Rattle.proof_laws.specs.Substituted.{Requirement, IsGoalOf}
use Rattle.proof_laws.specs.Refusal.{FirstOf, fault_unless, size_fault, given_in, contradiction_fault, same_goal, IsTokensFault, IsProofFault, IsOpenGoalFault, IsGoalFault}
use Rattle.proof_laws.specs.declared.goal.Goal.{Goal}
use Rattle.proof_laws.specs.declared.goal.Goal.TheVariants.{Row, Itself, Objective, Strict}
use Rattle.proof_laws.specs.declared.goal.GoalProof.{GoalProof}
use Rattle.proof_laws.specs.declared.goal.GoalProof.TheVariants.{Rup as ByRup, Pol as ByPol}
use Rattle.proof_laws.specs.declared.why.Why.{Why}
use Rattle.proof_laws.specs.declared.why.Why.TheVariants.{GoalOpen, GoalMissing}
use Rattle.proof_laws.proofs.Derivations.{first_of_none}
use Rattle.command_trim.specs.Trimmed.{Renaming, new_id, id_or_same, is_kept, is_kept_goal, is_kept_proof, new_goal, new_proof, new_proofs, new_token, token_ids, proof_ids}
use Rattle.command_trim.specs.Simulation.{IsRenaming, AreCarried, IsCarried}
use Rattle.command_trim.proofs.Hints.{hints_simulated}
use Rattle.command_trim.proofs.Tokens.{value_simulated}
use Rattle.command_trim.proofs.Live.{one_id}

-- ---- ids that are kept

lookup_any : (id new : ℕ) (es : List (ℕ × ℕ)) → lookup (nat_eq id) es ≡ Some new → list_any (λ e. nat_eq id e.0) es ≡ true
lookup_any id new [] is = cc
lookup_any id new (e ∷ es) is = by_test (nat_eq id e.0) is (lookup_any id new es)
  where
    by_test : (b : Bool) → cond b (Some e.1) (lookup (nat_eq id) es) ≡ Some new → (lookup (nat_eq id) es ≡ Some new → list_any (λ (f : ℕ × ℕ). nat_eq id f.0) es ≡ true) → (b || list_any (λ (f : ℕ × ℕ). nat_eq id f.0) es) ≡ true
    by_test true here rest = refl
    by_test false later rest = rest later

any_lookup : (id : ℕ) (es : List (ℕ × ℕ)) → list_any (λ e. nat_eq id e.0) es ≡ true → (new : ℕ) × (lookup (nat_eq id) es ≡ Some new)
any_lookup id [] is = cc
any_lookup id (e ∷ es) is = by_test (nat_eq id e.0) is (any_lookup id es)
  where
    by_test : (b : Bool) → (b || list_any (λ (f : ℕ × ℕ). nat_eq id f.0) es) ≡ true → (list_any (λ (f : ℕ × ℕ). nat_eq id f.0) es ≡ true → (new : ℕ) × (lookup (nat_eq id) es ≡ Some new)) → (new : ℕ) × (cond b (Some e.1) (lookup (nat_eq id) es) ≡ Some new)
    by_test true here rest = (e.1, refl)
    by_test false later rest = rest later

module _ (r : Renaming) where
  -- an id that a line has, with a new one
  pub kept_id : (id new : ℕ) → 0 < id → new_id r id ≡ Some new → is_kept r id ≡ true
  kept_id id new positive is = by_test (nat_le id r.rows) is
    where
      one : nat_le 1 id ≡ true
      one = le-leb 1 id (omega arith)

      by_test : (b : Bool) → cond b (Some id) (lookup (nat_eq id) r.made) ≡ Some new → ((nat_le 1 id && b) || list_any (λ (e : ℕ × ℕ). nat_eq id e.0) r.made) ≡ true
      by_test true row = ap (λ (a : Bool). (a && true) || list_any (λ (e : ℕ × ℕ). nat_eq id e.0) r.made) one
      by_test false made = ap (λ (a : Bool). (a && false) || list_any (λ (e : ℕ × ℕ). nat_eq id e.0) r.made) one ∙ lookup_any id new r.made made

  pub id_of_kept : (id : ℕ) → is_kept r id ≡ true → (new : ℕ) × (new_id r id ≡ Some new)
  id_of_kept id kept = by_test (nat_le id r.rows) kept
    where
      by_tests : (a x : Bool) → ((a && false) || x) ≡ true → x ≡ true
      by_tests true x is = is
      by_tests false x is = is

      by_test : (b : Bool) → ((nat_le 1 id && b) || list_any (λ (e : ℕ × ℕ). nat_eq id e.0) r.made) ≡ true → (new : ℕ) × (cond b (Some id) (lookup (nat_eq id) r.made) ≡ Some new)
      by_test true row = (id, refl)
      by_test false made = any_lookup id r.made (by_tests (nat_le 1 id) (list_any (λ (e : ℕ × ℕ). nat_eq id e.0) r.made) made)

-- ---- goals

module _ (r : Renaming) (n k : ℕ) (is : IsRenaming r n k) where
  same_rows : (i j : ℕ) → is_kept r i ≡ true → is_kept r j ≡ true → nat_eq (id_or_same r i) (id_or_same r j) ≡ nat_eq i j
  same_rows i j kept_i kept_j =
      let a = id_of_kept r i kept_i in
      let b = id_of_kept r j kept_j in
      ap (λ (o : Option ℕ). nat_eq (unwrap_or o i) (id_or_same r j)) a.1 ∙ ap (λ (o : Option ℕ). nat_eq a.0 (unwrap_or o j)) b.1
      ∙ elim (cases_order i j) [
        | inl same ↦ eq-eqb a.0 b.0 (some_same a.0 b.0 (sym a.1 ∙ ap (new_id r) same ∙ b.1)) ∙ sym (eq-eqb i j same)
        | inr apart ↦ ne_eqb a.0 b.0 (λ e. differ apart (one_id r n k is i j a.0 a.1 (b.1 ∙ ap Some (sym e)))) ∙ sym (ne_eqb i j (differ apart))
      ]
    where
      some_same : (x y : ℕ) → Some x ≡ Some y → x ≡ y
      some_same x y e = cc

      differ : (i < j) ⊎ (j < i) → i ≢ j
      differ (inl less) same = omega arith
      differ (inr more) same = omega arith

  -- two goals that are kept are one exactly where the new ones are
  pub same_goals : (g h : Goal) → is_kept_goal r g ≡ true → is_kept_goal r h ≡ true → same_goal (new_goal r g) (new_goal r h) ≡ same_goal g h
  same_goals (Row i) (Row j) kept_g kept_h = same_rows i j kept_g kept_h
  same_goals (Row i) Itself kept_g kept_h = refl
  same_goals (Row i) (Objective j) kept_g kept_h = refl
  same_goals (Row i) Strict kept_g kept_h = refl
  same_goals Itself (Row j) kept_g kept_h = refl
  same_goals Itself Itself kept_g kept_h = refl
  same_goals Itself (Objective j) kept_g kept_h = refl
  same_goals Itself Strict kept_g kept_h = refl
  same_goals (Objective i) (Row j) kept_g kept_h = refl
  same_goals (Objective i) Itself kept_g kept_h = refl
  same_goals (Objective i) (Objective j) kept_g kept_h = refl
  same_goals (Objective i) Strict kept_g kept_h = refl
  same_goals Strict (Row j) kept_g kept_h = refl
  same_goals Strict Itself kept_g kept_h = refl
  same_goals Strict (Objective j) kept_g kept_h = refl
  same_goals Strict Strict kept_g kept_h = refl

  abbrev Proved : Type 0
  Proved = Goal × GoalProof

  abbrev keeps : Proved → Bool
  keeps q = is_kept_goal r q.0 && is_kept_proof r q.1

  abbrev renew : Proved → Proved
  renew q = (new_goal r q.0, new_proof r q.1)

  -- the goal of a proof that is found
  found_kept : (name : Goal) → is_kept_goal r name ≡ true → (g : Goal) → same_goal name g ≡ true → is_kept_goal r g ≡ true
  found_kept name kept (Row i) same = by_name name kept same
    where
      by_name : (h : Goal) → is_kept_goal r h ≡ true → same_goal h (Row i) ≡ true → is_kept r i ≡ true
      by_name (Row j) kept_h e = let same_id : j ≡ i = eqb-true j i e in subst (λ (m : ℕ). is_kept r m ≡ true) same_id kept_h
      by_name Itself kept_h e = cc
      by_name (Objective j) kept_h e = cc
      by_name Strict kept_h e = cc
  found_kept name kept Itself same = refl
  found_kept name kept (Objective i) same = refl
  found_kept name kept Strict same = refl

  module _ (name : Goal) (kept : is_kept_goal r name ≡ true) where
    finds : Proved → Bool
    finds x = same_goal name x.0

    -- the proof that is found, where it is kept, is found under its new name
    pub found_new : (proofs : List Proved) (q : Proved) → find (λ x. same_goal name x.0) proofs ≡ Some q → keeps q ≡ true → find (λ x. same_goal (new_goal r name) x.0) (new_proofs r proofs) ≡ Some (renew q)
    found_new [] q found keep = cc
    found_new (x ∷ xs) q found keep = by_tests (same_goal name x.0) (keeps x) refl refl found (found_new xs q)
      where
        by_tests : (a b : Bool) → same_goal name x.0 ≡ a → keeps x ≡ b → cond a (Some x) (find (λ (y : Proved). same_goal name y.0) xs) ≡ Some q
            → (find (λ (y : Proved). same_goal name y.0) xs ≡ Some q → keeps q ≡ true → find (λ (y : Proved). same_goal (new_goal r name) y.0) (new_proofs r xs) ≡ Some (renew q))
            → find (λ (y : Proved). same_goal (new_goal r name) y.0) (map renew (cond (keeps x) (x ∷ filter keeps xs) (filter keeps xs))) ≡ Some (renew q)
        by_tests true true one two here rest =
            let first : x ≡ q = cc in
            let hit : same_goal (new_goal r name) (new_goal r x.0) ≡ true = same_goals name x.0 kept (and_parts _ _ two).0 ∙ one in
            ap (λ (b : Bool). find (λ (y : Proved). same_goal (new_goal r name) y.0) (map renew (cond b (x ∷ filter keeps xs) (filter keeps xs)))) two
            ∙ cond-true (same_goal (new_goal r name) (new_goal r x.0)) (Some (renew x)) (find (λ (y : Proved). same_goal (new_goal r name) y.0) (map renew (filter keeps xs))) hit
            ∙ ap (λ (y : Proved). Some (renew y)) first
        by_tests true false one two here rest =
            let first : x ≡ q = cc in
            let both : false ≡ true = sym two ∙ ap keeps first ∙ keep in
            cc
        by_tests false true one two later rest =
            let miss : same_goal (new_goal r name) (new_goal r x.0) ≡ false = same_goals name x.0 kept (and_parts _ _ two).0 ∙ one in
            ap (λ (b : Bool). find (λ (y : Proved). same_goal (new_goal r name) y.0) (map renew (cond b (x ∷ filter keeps xs) (filter keeps xs)))) two
            ∙ cond-false (same_goal (new_goal r name) (new_goal r x.0)) (Some (renew x)) (find (λ (y : Proved). same_goal (new_goal r name) y.0) (map renew (filter keeps xs))) miss
            ∙ rest later keep
        by_tests false false one two later rest =
            ap (λ (b : Bool). find (λ (y : Proved). same_goal (new_goal r name) y.0) (map renew (cond b (x ∷ filter keeps xs) (filter keeps xs)))) two ∙ rest later keep

    found_same : (proofs : List Proved) (q : Proved) → find (λ x. same_goal name x.0) proofs ≡ Some q → same_goal name q.0 ≡ true
    found_same [] q found = cc
    found_same (x ∷ xs) q found = by_test (same_goal name x.0) refl found (found_same xs q)
      where
        by_test : (a : Bool) → same_goal name x.0 ≡ a → cond a (Some x) (find (λ (y : Proved). same_goal name y.0) xs) ≡ Some q → (find (λ (y : Proved). same_goal name y.0) xs ≡ Some q → same_goal name q.0 ≡ true) → same_goal name q.0 ≡ true
        by_test true one here rest = let first : x ≡ q = cc in subst (λ (y : Proved). same_goal name y.0 ≡ true) first one
        by_test false one later rest = rest later

    found_has : (P : Proved → Type 0) (proofs : List Proved) (q : Proved) → find (λ x. same_goal name x.0) proofs ≡ Some q → All P proofs → P q
    found_has P [] q found each = cc
    found_has P (x ∷ xs) q found each = by_test (same_goal name x.0) found (λ later. found_has P xs q later (All-tail P x xs each))
      where
        by_test : (a : Bool) → cond a (Some x) (find (λ (y : Proved). same_goal name y.0) xs) ≡ Some q → (find (λ (y : Proved). same_goal name y.0) xs ≡ Some q → P q) → P q
        by_test true here rest = let first : x ≡ q = cc in subst P first (All-head P x xs each)
        by_test false later rest = rest later

-- ---- the ids of tokens that make a constraint are live

abbrev IsLive : StateValue → ℕ → Type 0
IsLive s id = (c : ConstraintValue) × (get s.live id ≡ Some c)

module _ (s : StateValue) (negated denied : Option ConstraintValue) where
  next_value : (fault : Option PolFault) (P : Type 0) (c : ConstraintValue) → MatchOption fault P (λ f. ◌≡◌ {A = Answer} (Ok c) (Err f)) → P
  next_value None P c is = is
  next_value (Some f) P c is = cc

  live_id : (id : ℕ) (o : Option ConstraintValue) (P : Type 0) (c : ConstraintValue) → get s.live id ≡ o → MatchOption (named_fault o id) P (λ f. ◌≡◌ {A = Answer} (Ok c) (Err f)) → IsLive s id
  live_id id None P c was is = cc
  live_id id (Some d) P c was is = (d, was)

  pub value_live : (tokens : List PolToken) (stack : List ConstraintValue) (c : ConstraintValue) → IsValueOn (given_in s negated denied) stack tokens (Ok c) → All (IsLive s) (flat_map token_ids tokens)
  value_live [] stack c is = All-nil (IsLive s)
  value_live (IdToken id ∷ tokens) stack c is =
      let after = next_value (token_fault (given_in s negated denied) (IdToken id) stack) _ c is in
      All-cons (IsLive s) id (flat_map token_ids tokens) (live_id id (get s.live id) _ c refl is) (value_live tokens after.0 c after.2)
  value_live (Axiom l ∷ tokens) stack c is = let after = next_value (token_fault (given_in s negated denied) (Axiom l) stack) _ c is in value_live tokens after.0 c after.2
  value_live (Negated ∷ tokens) stack c is = let after = next_value (token_fault (given_in s negated denied) Negated stack) _ c is in value_live tokens after.0 c after.2
  value_live (Denied ∷ tokens) stack c is = let after = next_value (token_fault (given_in s negated denied) Denied stack) _ c is in value_live tokens after.0 c after.2
  value_live (Add ∷ tokens) stack c is = let after = next_value (token_fault (given_in s negated denied) Add stack) _ c is in value_live tokens after.0 c after.2
  value_live (Mul m ∷ tokens) stack c is = let after = next_value (token_fault (given_in s negated denied) (Mul m) stack) _ c is in value_live tokens after.0 c after.2
  value_live (Div m ∷ tokens) stack c is = let after = next_value (token_fault (given_in s negated denied) (Div m) stack) _ c is in value_live tokens after.0 c after.2
  value_live (Saturate ∷ tokens) stack c is = let after = next_value (token_fault (given_in s negated denied) Saturate stack) _ c is in value_live tokens after.0 c after.2
  value_live (Weaken var ∷ tokens) stack c is = let after = next_value (token_fault (given_in s negated denied) (Weaken var) stack) _ c is in value_live tokens after.0 c after.2

-- ---- goals and their proofs

first_mapped : (o : Option Why) (R S : Option Why → Type 0) → (R None → S None) → FirstOf o R None → FirstOf o S None
first_mapped None R S more is = more is
first_mapped (Some why) R S more is = is

unless_renamed : (b : Bool) (x y : Why) → None ≡ fault_unless b x → None ≡ fault_unless b y
unless_renamed true x y is = refl
unless_renamed false x y is = cc

module _ (r : Renaming) (n k : ℕ) (is : IsRenaming r n k) (s t : StateValue) (vars : t.vars ≡ s.vars) (positive : (id : ℕ) (c : ConstraintValue) → get s.live id ≡ Some c → 0 < id) where
  kept_live : (ids : List ℕ) → AreCarried r s t ids → All (IsLive s) ids → list_all (is_kept r) ids ≡ true
  kept_live [] carried live = refl
  kept_live (id ∷ ids) carried live =
      let line = All-head (IsLive s) id ids live in
      let there = All-head (λ i. (c : ConstraintValue) → get s.live i ≡ Some c → IsCarried r s t i c) id ids carried line.0 line.1 in
      and_from _ _ (kept_id r id there.new (positive id line.0 line.1) there.is)
      (kept_live ids (All-tail (λ i. (c : ConstraintValue) → get s.live i ≡ Some c → IsCarried r s t i c) id ids carried) (All-tail (IsLive s) id ids live))

  contradiction : (negated denied : ConstraintValue) (tokens : List PolToken) (x y : Why) → AreCarried r s t (flat_map token_ids tokens) → IsTokensFault s negated denied tokens x None → (list_all (is_kept r) (flat_map token_ids tokens) ≡ true) × IsTokensFault t negated denied (map (new_token r) tokens) y None
  contradiction negated denied tokens x y carried fault = by_answer fault.0 fault.1 fault.2
    where
      by_answer : (answer : Answer) → IsValueOn (given_in s (Some negated) (Some denied)) [] tokens answer → None ≡ contradiction_fault x answer → (list_all (is_kept r) (flat_map token_ids tokens) ≡ true) × IsTokensFault t negated denied (map (new_token r) tokens) y None
      by_answer (Ok c) value none = (
        kept_live (flat_map token_ids tokens) carried (value_live s (Some negated) (Some denied) tokens [] c value),
        (Ok c, value_simulated r s t (Some negated) (Some denied) tokens [] c carried value, unless_renamed (nat_lt (total c.terms) c.degree) x y none),
      )
      by_answer (Err f) value none = cc

  module _ (c : ConstraintValue) (name : Goal) (g : ConstraintValue) where
    proof_simulated : (proof : GoalProof) → AreCarried r s t (proof_ids proof) → IsProofFault s c name g proof None → (is_kept_proof r proof ≡ true) × IsProofFault t c (new_goal r name) g (new_proof r proof) None
    proof_simulated (ByRup hints) carried fault = (refl, hints_simulated r s t (negation g) (Some (negation c)) hints (GoalOpen name) (GoalOpen (new_goal r name)) vars carried fault)
    proof_simulated (ByPol tokens) carried fault = contradiction (negation g) (negation c) tokens (GoalOpen name) (GoalOpen (new_goal r name)) carried fault

    open_simulated : (proofs : List (Goal × GoalProof)) → All (λ q. AreCarried r s t (proof_ids q.1)) proofs → is_kept_goal r name ≡ true → IsOpenGoalFault s c proofs name g None → IsOpenGoalFault t c (new_proofs r proofs) (new_goal r name) g None
    open_simulated proofs carried kept fault = by_proof (find (λ x. same_goal name x.0) proofs) refl fault
      where
        by_proof : (o : Option (Goal × GoalProof)) → find (λ (x : Goal × GoalProof). same_goal name x.0) proofs ≡ o
            → MatchOption (option_map (λ (q : Goal × GoalProof). q.1) o) (◌≡◌ {A = Option Why} None (Some (GoalMissing name))) (λ proof. FirstOf (size_fault (size (negation g))) (IsProofFault s c name g proof) None)
            → IsOpenGoalFault t c (new_proofs r proofs) (new_goal r name) g None
        by_proof None found missing = cc
        by_proof (Some q) found judged =
            let inner = first_of_none (size_fault (size (negation g))) (IsProofFault s c name g q.1) judged in
            let own = found_has r n k is name kept (λ (x : Goal × GoalProof). AreCarried r s t (proof_ids x.1)) proofs q found carried in
            let proved = proof_simulated q.1 own inner.1 in
            let goal_kept = found_kept r n k is name kept q.0 (found_same r n k is name kept proofs q found) in
            let here = found_new r n k is name kept proofs q found (and_from _ _ goal_kept proved.0) in
            subst (λ (o : Option (Goal × GoalProof)). MatchOption (option_map (λ (x : Goal × GoalProof). x.1) o) (◌≡◌ {A = Option Why} None (Some (GoalMissing (new_goal r name)))) (λ proof. FirstOf (size_fault (size (negation g))) (IsProofFault t c (new_goal r name) g proof) None)) (sym here)
            (first_mapped (size_fault (size (negation g))) (IsProofFault s c name g q.1) (IsProofFault t c (new_goal r name) g (new_proof r q.1)) (λ _. proved.1) judged)

  -- the same requirement, by its new name
  abbrev pub renamed : Requirement → Requirement
  renamed q = record { goal = new_goal r q.goal; size = q.size; excess = q.excess }

  abbrev Judged : StateValue → ConstraintValue → List (Goal × GoalProof) → Requirement → Option Why → Type 0
  Judged u c proofs q f = (g : ConstraintValue) × IsGoalOf g q × (((g.degree ≡ 0) × (f ≡ None)) ⊎ ((0 < g.degree) × IsOpenGoalFault u c proofs q.goal g f))

  pub goal_simulated : (c : ConstraintValue) (proofs : List (Goal × GoalProof)) (q : Requirement) → All (λ x. AreCarried r s t (proof_ids x.1)) proofs → is_kept_goal r q.goal ≡ true → IsGoalFault s c proofs q None → IsGoalFault t c (new_proofs r proofs) (renamed q) None
  goal_simulated c proofs q carried kept = first_mapped (size_fault (2 * q.size)) (Judged s c proofs q) (Judged t c (new_proofs r proofs) (renamed q)) (λ judged. (
    judged.0,
    judged.1,
    elim judged.2 [
      | inl closed ↦ inl closed
      | inr open' ↦ inr (open'.0, open_simulated c q.goal judged.0 proofs carried kept open'.1)
    ],
  ))
