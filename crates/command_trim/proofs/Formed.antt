-- Lines under new ids are such as a log can spell.
use Rattle.std.specs.Prelude.{◌≡◌, ◌≢◌, ℕ, zero, suc, ◌^◌, ◌<◌, ◌≤◌, Bool, true, false, cond, ◌&&◌, ◌||◌, nat_eq, nat_le, Option, Some, None, unwrap_or, List, [], ◌∷◌, map, All, AllPairs, refl}
use Rattle.std.proofs.Common.{sym, subst, inl, inr, arith}
use Rattle.std.specs.List.{filter, list_any}
use Rattle.std.specs.Map.{lookup}
use Rattle.std.proofs.lemmas.Bool.{and_parts}
use Rattle.std.proofs.lemmas.List.Elements.{All-nil, All-cons, All-head, All-tail}
use Rattle.std.proofs.lemmas.List.Kept.{AllPairs-cons}
use Rattle.cutting_planes.specs.declared.token.PolToken.{PolToken}
use Rattle.cutting_planes.specs.declared.token.PolToken.TheVariants.{Id as IdToken, Axiom, Negated, Denied, Add, Mul, Div, Saturate, Weaken}
use Rattle.hint_rup.specs.declared.hint.Hint.{Hint}
use Rattle.hint_rup.specs.declared.hint.Hint.TheVariants.{Id as IdHint, Negated as NegatedHint, Denied as DeniedHint}
use Rattle.proof_laws.specs.WellFormed.{IsId, IsToken, AreTokens, IsHint, IsGoal, IsGoalProof, AreProofs, ComesBefore, IsWellFormed}
use Rattle.proof_laws.specs.declared.goal.Goal.{Goal}
use Rattle.proof_laws.specs.declared.goal.Goal.TheVariants.{Row, Itself, Objective, Strict}
use Rattle.proof_laws.specs.declared.goal.GoalProof.{GoalProof}
use Rattle.proof_laws.specs.declared.goal.GoalProof.TheVariants.{Rup as ByRup, Pol as ByPol}
use Rattle.proof_laws.specs.declared.line.Line.{Line}
use Rattle.proof_laws.specs.declared.line.Line.TheVariants.{Pol, Rup, Learn, Def, Red, Dom, Sol, Del, Reduce, End}
use Rattle.command_trim.specs.Trimmed.{Renaming, new_id, id_or_same, in_front, new_ids, hint_in_front, new_hints, new_token, new_goal, new_proof, new_proofs, new_line, is_kept, is_kept_goal, is_kept_proof, holds_made, stays}
use Rattle.command_trim.specs.Simulation.{IsRenaming}
use Rattle.command_trim.proofs.Goals.{id_of_kept}

module _ (r : Renaming) (n k : ℕ) (is : IsRenaming r n k) (small : k ≤ 2 ^ 63) where
  new_small : (id new : ℕ) → new_id r id ≡ Some new → IsId new
  new_small id new there = let low = is.new id new there in omega arith

  or_same : (o : Option ℕ) (id : ℕ) → ((new : ℕ) → o ≡ Some new → IsId new) → IsId id → IsId (unwrap_or o id)
  or_same None id new old = old
  or_same (Some a) id new old = new a refl

  same_small : (id : ℕ) → IsId id → IsId (id_or_same r id)
  same_small id old = or_same (new_id r id) id (new_small id) old

  all_small : (ids : List ℕ) → All IsId ids → All IsId (map (id_or_same r) ids)
  all_small [] all = All-nil IsId
  all_small (id ∷ ids) all = All-cons IsId (id_or_same r id) (map (id_or_same r) ids) (same_small id (All-head IsId id ids all)) (all_small ids (All-tail IsId id ids all))

  -- ---- tokens and hints

  token_formed : (token : PolToken) → IsToken token → IsToken (new_token r token)
  token_formed (IdToken id) old = same_small id old
  token_formed (Axiom l) old = old
  token_formed Negated old = old
  token_formed Denied old = old
  token_formed Add old = old
  token_formed (Mul m) old = old
  token_formed (Div m) old = old
  token_formed Saturate old = old
  token_formed (Weaken var) old = old

  all_tokens : (tokens : List PolToken) → All IsToken tokens → All IsToken (map (new_token r) tokens)
  all_tokens [] all = All-nil IsToken
  all_tokens (token ∷ tokens) all = All-cons IsToken (new_token r token) (map (new_token r) tokens) (token_formed token (All-head IsToken token tokens all)) (all_tokens tokens (All-tail IsToken token tokens all))

  some_left : (tokens : List PolToken) → tokens ≢ [] → map (new_token r) tokens ≢ []
  some_left [] some = some
  some_left (token ∷ tokens) some = λ e. cc

  tokens_formed : (tokens : List PolToken) → AreTokens tokens → AreTokens (map (new_token r) tokens)
  tokens_formed tokens formed = (some_left tokens formed.0, all_tokens tokens formed.1)

  hint_formed : (o : Option ℕ) (hints : List Hint) → ((new : ℕ) → o ≡ Some new → IsId new) → All IsHint hints → All IsHint (hint_in_front o hints)
  hint_formed None hints new rest = rest
  hint_formed (Some a) hints new rest = All-cons IsHint (IdHint a) hints (new a refl) rest

  hints_formed : (hints : List Hint) → All IsHint hints → All IsHint (new_hints r hints)
  hints_formed [] all = All-nil IsHint
  hints_formed (IdHint id ∷ hints) all = hint_formed (new_id r id) (new_hints r hints) (new_small id) (hints_formed hints (All-tail IsHint (IdHint id) hints all))
  hints_formed (NegatedHint ∷ hints) all = All-cons IsHint NegatedHint (new_hints r hints) tt (hints_formed hints (All-tail IsHint NegatedHint hints all))
  hints_formed (DeniedHint ∷ hints) all = All-cons IsHint DeniedHint (new_hints r hints) tt (hints_formed hints (All-tail IsHint DeniedHint hints all))

  -- ---- proofs of goals

  goal_formed : (g : Goal) → IsGoal g → IsGoal (new_goal r g)
  goal_formed (Row id) old = same_small id old
  goal_formed Itself old = old
  goal_formed (Objective i) old = old
  goal_formed Strict old = old

  proof_formed : (proof : GoalProof) → IsGoalProof proof → IsGoalProof (new_proof r proof)
  proof_formed (ByRup hints) old = hints_formed hints old
  proof_formed (ByPol tokens) old = tokens_formed tokens old

  rows_rise : (i j : ℕ) → is_kept r i ≡ true → is_kept r j ≡ true → i < j → id_or_same r i < id_or_same r j
  rows_rise i j kept_i kept_j less =
      let a = id_of_kept r i kept_i in
      let b = id_of_kept r j kept_j in
      let rise : a.0 < b.0 = is.rising i j a.0 b.0 a.1 b.1 less in
      subst (λ (o : Option ℕ). unwrap_or o i < id_or_same r j) (sym a.1) (subst (λ (o : Option ℕ). a.0 < unwrap_or o j) (sym b.1) rise)

  still_before : (g h : Goal) → is_kept_goal r g ≡ true → is_kept_goal r h ≡ true → ComesBefore g h → ComesBefore (new_goal r g) (new_goal r h)
  still_before (Row i) (Row j) kept_g kept_h (inl less) = inl less
  still_before (Row i) (Row j) kept_g kept_h (inr both) = inr (refl, rows_rise i j kept_g kept_h both.1)
  still_before (Row i) Itself kept_g kept_h before = inl (omega arith)
  still_before (Row i) (Objective j) kept_g kept_h before = inl (omega arith)
  still_before (Row i) Strict kept_g kept_h before = inl (omega arith)
  still_before Itself (Row j) kept_g kept_h (inl less) = inl less
  still_before Itself (Row j) kept_g kept_h (inr both) = absurd (let e = both.0 in omega arith)
  still_before Itself Itself kept_g kept_h before = before
  still_before Itself (Objective j) kept_g kept_h before = before
  still_before Itself Strict kept_g kept_h before = before
  still_before (Objective i) (Row j) kept_g kept_h (inl less) = inl less
  still_before (Objective i) (Row j) kept_g kept_h (inr both) = absurd (let e = both.0 in omega arith)
  still_before (Objective i) Itself kept_g kept_h before = before
  still_before (Objective i) (Objective j) kept_g kept_h before = before
  still_before (Objective i) Strict kept_g kept_h before = before
  still_before Strict (Row j) kept_g kept_h (inl less) = inl less
  still_before Strict (Row j) kept_g kept_h (inr both) = absurd (let e = both.0 in omega arith)
  still_before Strict Itself kept_g kept_h before = before
  still_before Strict (Objective j) kept_g kept_h before = before
  still_before Strict Strict kept_g kept_h before = before

  abbrev Proved : Type 0
  Proved = Goal × GoalProof

  abbrev keeps : Proved → Bool
  keeps q = is_kept_goal r q.0 && is_kept_proof r q.1

  abbrev renew : Proved → Proved
  renew q = (new_goal r q.0, new_proof r q.1)

  -- what holds of each that is kept, under its new name
  all_new : (P Q : Proved → Type 0) → ((q : Proved) → keeps q ≡ true → P q → Q (renew q)) → (proofs : List Proved) → All P proofs → All Q (new_proofs r proofs)
  all_new P Q turn [] all = All-nil Q
  all_new P Q turn (q ∷ proofs) all = by_test (keeps q) refl (all_new P Q turn proofs (All-tail P q proofs all))
    where
      by_test : (b : Bool) → keeps q ≡ b → All Q (new_proofs r proofs) → All Q (map renew (cond b (q ∷ filter keeps proofs) (filter keeps proofs)))
      by_test true test rest = All-cons Q (renew q) (new_proofs r proofs) (turn q test (All-head P q proofs all)) rest
      by_test false test rest = rest

  abbrev Before : Proved → Proved → Type 0
  Before q u = ComesBefore q.0 u.0

  order_new : (proofs : List Proved) → AllPairs Before proofs → AllPairs Before (new_proofs r proofs)
  order_new [] order = order
  order_new (q ∷ proofs) order =
      by_test (keeps q) refl (order_new proofs (λ i j d before inside. order (suc i) (suc j) d (omega arith) (omega arith)))
      (λ kept. all_new (Before q) (Before (renew q)) (λ u keep before. still_before q.0 u.0 kept (and_parts _ _ keep).0 before) proofs (λ i d inside. order zero (suc i) d (omega arith) (omega arith)))
    where
      by_test : (b : Bool) → keeps q ≡ b → AllPairs Before (new_proofs r proofs) → (is_kept_goal r q.0 ≡ true → All (Before (renew q)) (new_proofs r proofs)) → AllPairs Before (map renew (cond b (q ∷ filter keeps proofs) (filter keeps proofs)))
      by_test true test rest first = AllPairs-cons Before (renew q) (new_proofs r proofs) (first (and_parts _ _ test).0) rest
      by_test false test rest first = rest

  proofs_formed : (proofs : List Proved) → AreProofs proofs → AreProofs (new_proofs r proofs)
  proofs_formed proofs formed = record {
    goals = all_new (λ q. IsGoal q.0) (λ q. IsGoal q.0) (λ q keep old. goal_formed q.0 old) proofs formed.goals;
    proofs = all_new (λ q. IsGoalProof q.1) (λ q. IsGoalProof q.1) (λ q keep old. proof_formed q.1 old) proofs formed.proofs;
    order = order_new proofs formed.order;
  }

  -- ---- ids that are deleted

  abbrev Below : ℕ → ℕ → Type 0
  Below i j = i < j

  in_front_all : (P : ℕ → Type 0) (o : Option ℕ) (ids : List ℕ) → ((new : ℕ) → o ≡ Some new → P new) → All P ids → All P (in_front o ids)
  in_front_all P None ids new rest = rest
  in_front_all P (Some a) ids new rest = All-cons P a ids (new a refl) rest

  ids_small : (ids : List ℕ) → All IsId (new_ids r ids)
  ids_small [] = All-nil IsId
  ids_small (id ∷ ids) = in_front_all IsId (new_id r id) (new_ids r ids) (new_small id) (ids_small ids)

  ids_above : (i a : ℕ) → new_id r i ≡ Some a → (ids : List ℕ) → All (Below i) ids → All (Below a) (new_ids r ids)
  ids_above i a at [] above = All-nil (Below a)
  ids_above i a at (j ∷ ids) above = in_front_all (Below a) (new_id r j) (new_ids r ids) (λ b there. is.rising i j a b at there (All-head (Below i) j ids above)) (ids_above i a at ids (All-tail (Below i) j ids above))

  ids_rise : (ids : List ℕ) → AllPairs Below ids → AllPairs Below (new_ids r ids)
  ids_rise [] rise = rise
  ids_rise (i ∷ ids) rise =
      by_new (new_id r i) refl (ids_rise ids (λ a b d before inside. rise (suc a) (suc b) d (omega arith) (omega arith)))
      (λ a at. ids_above i a at ids (λ j d inside. rise zero (suc j) d (omega arith) (omega arith)))
    where
      by_new : (o : Option ℕ) → new_id r i ≡ o → AllPairs Below (new_ids r ids) → ((a : ℕ) → new_id r i ≡ Some a → All (Below a) (new_ids r ids)) → AllPairs Below (in_front o (new_ids r ids))
      by_new None at rest first = rest
      by_new (Some a) at rest first = AllPairs-cons Below a (new_ids r ids) (first a at) rest

  -- an id that a kept line has made has a new one
  some_new : (id : ℕ) (es : List (ℕ × ℕ)) → list_any (λ e. nat_eq id e.0) es ≡ true → lookup (nat_eq id) es ≢ None
  some_new id [] found none = cc
  some_new id (e ∷ es) found none = by_test (nat_eq id e.0) found none (some_new id es)
    where
      by_test : (b : Bool) → (b || list_any (λ (f : ℕ × ℕ). nat_eq id f.0) es) ≡ true → cond b (Some e.1) (lookup (nat_eq id) es) ≡ None → (list_any (λ (f : ℕ × ℕ). nat_eq id f.0) es ≡ true → lookup (nat_eq id) es ≢ None) → ⊥
      by_test true here is rest = cc
      by_test false later is rest = rest later is

  made_new : (id : ℕ) → list_any (λ (e : ℕ × ℕ). nat_eq id e.0) r.made ≡ true → new_id r id ≢ None
  made_new id found none = by_row (nat_le id r.rows) none
    where
      by_row : (b : Bool) → cond b (Some id) (lookup (nat_eq id) r.made) ≡ None → ⊥
      by_row true is = cc
      by_row false is = some_new id r.made found is

  ids_left : (ids : List ℕ) → holds_made r ids ≡ true → new_ids r ids ≢ []
  ids_left [] holds empty = cc
  ids_left (id ∷ ids) holds empty = by_test (list_any (λ (e : ℕ × ℕ). nat_eq id e.0) r.made) refl holds empty (ids_left ids)
    where
      first_left : (o : Option ℕ) → o ≢ None → in_front o (new_ids r ids) ≡ [] → ⊥
      first_left None some is = some refl
      first_left (Some a) some is = cc

      rest_left : (o : Option ℕ) → in_front o (new_ids r ids) ≡ [] → new_ids r ids ≡ []
      rest_left None is = is
      rest_left (Some a) is = cc

      by_test : (b : Bool) → list_any (λ (e : ℕ × ℕ). nat_eq id e.0) r.made ≡ b → (b || holds_made r ids) ≡ true → in_front (new_id r id) (new_ids r ids) ≡ [] → (holds_made r ids ≡ true → new_ids r ids ≢ []) → ⊥
      by_test true found here is rest = first_left (new_id r id) (made_new id found) is
      by_test false found later is rest = rest later (rest_left (new_id r id) is)

  -- ---- lines

  pub line_formed : (line : Line) (need : Bool) → stays r need line ≡ true → IsWellFormed line → IsWellFormed (new_line r line)
  line_formed (Pol tokens) need kept formed = tokens_formed tokens formed
  line_formed (Rup goal hints) need kept formed = (formed.0, hints_formed hints formed.1)
  line_formed (Learn goal hints) need kept formed = (formed.0, hints_formed hints formed.1)
  line_formed (Def var sum) need kept formed = formed
  line_formed (Red goal w proofs) need kept formed = (formed.0, formed.1, proofs_formed proofs formed.2)
  line_formed (Dom goal w proofs) need kept formed = (formed.0, formed.1, proofs_formed proofs formed.2)
  line_formed (Sol model cut ids) need kept formed = (formed.0, formed.1, all_small ids formed.2)
  line_formed (Del ids) need kept formed = (ids_left ids kept, ids_small ids, ids_rise ids formed.2)
  line_formed (Reduce ids) need kept formed = (ids_left ids kept, ids_small ids, ids_rise ids formed.2)
  line_formed (End id) need kept formed = same_small id formed
