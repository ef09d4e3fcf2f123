-- The lines of the variables, one after the other, and what they leave.
use Rattle.std.proofs.Common.{◌≡◌, inl, ℕ, ◌+◌, ◌<◌, ◌≤◌, zero, suc, Bool, true, false, cond, if◌then◌else◌, Option, None, Some, List, [], ◌∷◌, ◌++◌, map, length, get_or, refl, ap, sym, subst, ◌∙◌, arith, append-nil}
use Rattle.std.specs.Prelude.{◌^◌}
use Rattle.std.specs.List.{All, Contains, filter_map, range_with_len, cons_option}
use Rattle.std.proofs.lemmas.List.{map-append}
use Rattle.std.proofs.lemmas.List.Elements.{All-contains, All-map, Contains-append_right, filter_map-append}
use Rattle.scut_base.specs.Literal.{Literal}
use Rattle.scut_base.proofs.Lists.{Contains-head, sum_by_zero}
use Rattle.pb_lin.specs.Problem.{ProblemValue, IsProblem}
use Rattle.proof_laws.specs.State.{StateValue, start}
use Rattle.proof_laws.specs.Steps.{with_line}
use Rattle.proof_laws.specs.WellFormed.{IsWellFormed}
use Rattle.proof_laws.specs.Legal.{IsLegal}
use Rattle.proof_laws.specs.Replay.{IsReplay}
use Rattle.proof_laws.specs.Earned.{IsEarned, changes_learned, is_learn, is_sol}
use Rattle.proof_laws.specs.declared.line.Line.{Line}
use Rattle.proof_laws.specs.declared.line.Line.TheVariants.{Pol, Rup, Learn, Def, Red, Dom, Sol, Del, Reduce, End}
use Rattle.proof_laws.proofs.Replays.{leads_further, replay_lines, replay_once}
use Rattle.proof_rules.specs.Recording.{Snapshot, MayBeAdded}
use Rattle.oracle.specs.Solving.{IsWithin}
use Rattle.harden.specs.Hardened.{dom_line, first_fixed, fixed_upto, fixing, fixing_line, in_costs, red_line}
use Rattle.harden.specs.Laws.{IsHardenedTo, MayBeFixed}
use Rattle.harden.specs.Hardening.{ArePartOf, HardensTo, MayBeSearched}
use Rattle.harden.proofs.InOrder.{begin_law, fixed_parts, order_law}

-- ---- lists

range_last : (a n j : ℕ) → a + n ≡ j → range_with_len a (suc n) ≡ range_with_len a n ++ j ∷ []
range_last a zero j e = ap (λ (k : ℕ). k ∷ []) (omega arith)
range_last a (suc n) j e = ap (λ (ks : List ℕ). a ∷ ks) (range_last (a + 1) n j (omega arith))

range_parts : (a n k : ℕ) → n ≤ k → (rest : List ℕ) × (range_with_len a k ≡ range_with_len a n ++ rest)
range_parts a zero k le = (range_with_len a k, refl)
range_parts a (suc n) zero le = absurd (omega arith)
range_parts a (suc n) (suc k) le = let rest = range_parts (a + 1) n k (omega arith) in (rest.0, ap (λ (ks : List ℕ). a ∷ ks) rest.1)

next_fixed : (p : ProblemValue) (n : ℕ) → fixed_upto p (n + 1) ≡ fixed_upto p n ++ cons_option (first_fixed p (n + 1)) []
next_fixed p n =
    let next : n + 1 ≡ suc n = omega arith in
    ap (fixed_upto p) next ∙ ap (filter_map (first_fixed p)) (range_last 1 n (n + 1) (omega arith)) ∙ filter_map-append (first_fixed p) (range_with_len 1 n) ((n + 1) ∷ [])

pub fixed_some : (p : ProblemValue) (n : ℕ) (l : Literal) → first_fixed p (n + 1) ≡ Some l → fixed_upto p (n + 1) ≡ fixed_upto p n ++ l ∷ []
fixed_some p n l found = next_fixed p n ∙ ap (λ (o : Option Literal). fixed_upto p n ++ cons_option o []) found

pub fixed_none : (p : ProblemValue) (n : ℕ) → first_fixed p (n + 1) ≡ None → fixed_upto p (n + 1) ≡ fixed_upto p n
fixed_none p n none = next_fixed p n ∙ ap (λ (o : Option Literal). fixed_upto p n ++ cons_option o []) none ∙ append-nil (fixed_upto p n)

-- ---- recorders

pub begins : (p : ProblemValue) (a : Snapshot) → IsProblem p → a.problem ≡ p → a.lines ≡ [] → a.broken ≡ false → HardensTo p a 0
begins p a problem same none whole = record {
  problem = same;
  whole = whole;
  lines = none;
  state = start p;
  reached = subst (λ (ls : List Line). IsReplay p ls (start p)) (sym none) refl;
  hardened = begin_law p problem;
}

module _ (p : ProblemValue) (a : Snapshot) (n : ℕ) (problem : IsProblem p) (so : HardensTo p a n) (upto : n < p.vars) where
  -- the next line may be added
  pub fixes : (l : Literal) → first_fixed p (n + 1) ≡ Some l → MayBeFixed p so.state l
  fixes l found = order_law p so.state (n + 1) l problem so.hardened (omega arith) (omega arith) found

  pub formed : (l : Literal) → first_fixed p (n + 1) ≡ Some l → IsWellFormed (fixing_line p l)
  formed l found = let next = fixes l found in next.formed

  pub legal : (l : Literal) → first_fixed p (n + 1) ≡ Some l → MayBeAdded a.problem a.lines (fixing_line p l)
  legal l found = subst (λ (q : ProblemValue). MayBeAdded q a.lines (fixing_line p l)) (sym so.problem) (λ s reached.
      let same : so.state ≡ s = replay_once p a.lines so.state s so.reached reached in
      let next = fixes l found in
      inl (subst (λ (t : StateValue). IsLegal p t (fixing_line p l)) same next.next.legal))

  -- there is room for it
  pub room : length a.lines < 2 ^ 61
  room = let count = replay_lines p a.lines so.state so.reached in let few = so.hardened.few in let vars = problem.variables in omega arith

  -- after it
  pub adds : (b : Snapshot) (l : Literal) → first_fixed p (n + 1) ≡ Some l → b.problem ≡ a.problem → b.broken ≡ false → b.lines ≡ a.lines ++ fixing_line p l ∷ [] → HardensTo p b (n + 1)
  adds b l found same whole lines =
      let next = fixes l found in
      let parts = fixed_parts p (n + 1) l found in
      record {
        problem = same ∙ so.problem;
        whole = whole;
        lines = lines ∙ ap (λ (ls : List Line). ls ++ fixing_line p l ∷ []) so.lines ∙ sym (ap (map (fixing_line p)) (fixed_some p n l found) ∙ map-append (fixing_line p) (fixed_upto p n) (l ∷ []));
        state = with_line so.state (fixing l);
        reached = subst (λ (ls : List Line). IsReplay p ls (with_line so.state (fixing l))) (sym lines) (leads_further p a.lines (start p) so.state (with_line so.state (fixing l)) (fixing_line p l) so.reached next.next);
        hardened = subst (λ (v : ℕ). IsHardenedTo p (with_line so.state (fixing l)) (v + 1)) parts.0 next.hardened;
      }

  -- where there is none
  pub passes : first_fixed p (n + 1) ≡ None → HardensTo p a (n + 1)
  passes none = record {
    problem = so.problem;
    whole = so.whole;
    lines = so.lines ∙ sym (ap (map (fixing_line p)) (fixed_none p n none));
    state = so.state;
    reached = so.reached;
    hardened = record {
      state = so.hardened.state;
      fits = so.hardened.fits;
      unended = so.hardened.unended;
      none_learned = so.hardened.none_learned;
      few = let few = so.hardened.few in omega arith;
      lines = λ id c live above k d short. let less = so.hardened.lines id c live above k d short in omega arith;
    };
  }

-- ---- what they are

-- the lines so far are some first ones
pub part : (p : ProblemValue) (a : Snapshot) (n : ℕ) → HardensTo p a n → n ≤ p.vars → ArePartOf a.lines p
part p a n so le =
    let rest = range_parts 1 n p.vars le in
    let more = filter_map (first_fixed p) rest.0 in (
      map (fixing_line p) more,
      ap (λ (vars : List ℕ). map (fixing_line p) (filter_map (first_fixed p) vars)) rest.1
          ∙ ap (map (fixing_line p)) (filter_map-append (first_fixed p) (range_with_len 1 n) rest.0)
          ∙ map-append (fixing_line p) (fixed_upto p n) more
          ∙ ap (λ (ls : List Line). ls ++ map (fixing_line p) more) (sym so.lines),
    )

-- a line that makes a literal false neither learns nor deletes, and logs no solution
plain_line : (p : ProblemValue) (l : Literal) → changes_learned (fixing_line p l) ≡ false
plain_line p l = by (in_costs p l)
  where
    by : (b : Bool) → changes_learned (if b then dom_line p l else red_line p l) ≡ false
    by true = refl
    by false = refl

logs_none : (p : ProblemValue) (l : Literal) → is_sol (fixing_line p l) ≡ false
logs_none p l = by (in_costs p l)
  where
    by : (b : Bool) → is_sol (if b then dom_line p l else red_line p l) ≡ false
    by true = refl
    by false = refl

all_plain : (p : ProblemValue) (ls : List Literal) → All (λ line. changes_learned line ≡ false) (map (fixing_line p) ls)
all_plain p ls = All-map (λ line. changes_learned line ≡ false) (fixing_line p) ls (λ k d short. plain_line p (get_or ls k d))

abbrev learns : Line → ℕ
learns line = cond (is_learn line) 1 0

none_learn : (line : Line) → changes_learned line ≡ false → learns line ≡ 0
none_learn (Learn goal hints) e = cc
none_learn (Pol tokens) e = refl
none_learn (Rup goal hints) e = refl
none_learn (Def var sum) e = refl
none_learn (Red goal w proofs) e = refl
none_learn (Dom goal w proofs) e = refl
none_learn (Sol model cut ids) e = refl
none_learn (Del ids) e = refl
none_learn (Reduce ids) e = refl
none_learn (End id) e = refl

-- lines that neither learn nor delete have earned what they learned: nothing
plain_earned : (p : ProblemValue) (lines : List Line) (s : StateValue) → IsReplay p lines s → All (λ line. changes_learned line ≡ false) lines → IsEarned p lines 0
plain_earned p lines s reached plain = record {
  replays = (s, reached);
  learned = sum_by_zero learns lines (λ k d short. none_learn (get_or lines k d) (plain k d short));
  new = λ before goal hints after t splits replay. absurd (there before (Learn goal hints) after splits refl);
  kept = λ before ids after splits. absurd (there before (Del ids) after splits refl);
  reductions = λ before ids after splits. absurd (there before (Reduce ids) after splits refl);
}
  where
    there : (before : List Line) (line : Line) (after : List Line) → lines ≡ before ++ (line ∷ after) → changes_learned line ≡ true → ⊥
    there before line after splits changes =
        let among : Contains lines line = subst (λ (ls : List Line). Contains ls line) (sym splits) (Contains-append_right before (line ∷ after) line (Contains-head line after)) in
        let none : changes_learned line ≡ false = All-contains (λ l. changes_learned l ≡ false) lines line plain among in
        cc

within_none : (limit : Option ℕ) (p : ProblemValue) (lines : List Line) (s : StateValue) → IsReplay p lines s → s.learned ≡ 0 → IsWithin limit p lines
within_none None p lines s reached none = tt
within_none (Some limit) p lines s reached none = λ t replay. let same = ap (λ (u : StateValue). u.learned) (replay_once p lines s t reached replay) in omega arith

-- the lines of some variables may be followed by those of a search
pub searched : (p : ProblemValue) (a : Snapshot) (n : ℕ) → HardensTo p a n → MayBeSearched a
searched p a n so =
    let reached = subst (λ (q : ProblemValue). IsReplay q a.lines so.state) (sym so.problem) so.reached in
    record {
      ready = record { whole = so.whole; state = so.state; reached = reached; unended = so.hardened.unended };
      earned = (0, plain_earned a.problem a.lines so.state reached (subst (λ (ls : List Line). All (λ line. changes_learned line ≡ false) ls) (sym so.lines) (all_plain p (fixed_upto p n))));
      within = within_none a.limit a.problem a.lines so.state reached so.hardened.none_learned;
      no_solutions = subst (λ (ls : List Line). All (λ line. is_sol line ≡ false) ls) (sym so.lines) (All-map (λ line. is_sol line ≡ false) (fixing_line p) (fixed_upto p n) (λ k d short. logs_none p (get_or (fixed_upto p n) k d)));
    }
