-- Terms of a constraint: how they are kept, how they are spelled, and how they rise.
use Rattle.std.proofs.Common.{◌≡◌, ℕ, suc, ◌+◌, ◌<◌, ◌≤◌, ◌^◌, List, [], ◌∷◌, ◌++◌, length, get_or, Err, refl, sym, ap, subst, ◌∙◌, arith}
use Rattle.std.specs.List.{All, AllPairs, flat_map}
use Rattle.std.specs.Fmt.{decimal}
use Rattle.std.proofs.lemmas.List.{append-nil, append_assoc, length_push}
use Rattle.std.proofs.lemmas.List.Elements.{All-nil, All-cons, All-head, All-tail, All-push, All-get_or}
use Rattle.std.proofs.lemmas.List.Sums.{sum_by-append}
use Rattle.std.proofs.lemmas.List.Quantifiers.{all_pairs_push}
use Rattle.scut_base.proofs.Lists.{head_same, tail_same}
use Rattle.scut_base.specs.Literal.{Literal}
use Rattle.pb_lin.specs.Constraint.{ConstraintValue, IsNormal, total, ones, literals}
use Rattle.pb_lin.proofs.Ones.{total_ones, AreOnes-ones, rising-literals}
use Rattle.pb_lin.proofs.Merges.{rising_head, rising_tail}
use Rattle.proof_laws.specs.WellFormed.{IsVariable, IsConstraint}
use Rattle.proof_lines.specs.LineText.{literal_word, constraint_words}
use Rattle.proof_lines.specs.declared.reader.LineFault.{LineFault}
use Rattle.proof_lines.specs.declared.reader.LineFault.TheVariants.{Syntax, NoMemory}
use Rattle.proof_lines.specs.Reading.{BeginsWith, IsTerm, AreTerms, MayFollow, Reads, ReadsTerms, last_variable, term_words}
use Rattle.proof_lines.proofs.Numbers.{one_number}
use Rattle.proof_lines.proofs.Codes.{AnyFollows, no_decimal, one_literal}
use Rattle.proof_lines.proofs.WordParts.{any_ended}
use Rattle.proof_lines.proofs.Items.{IsCode, ItemsSoFar, Words, other_items, All-back, no_item_here, one_item_more, one_list}

-- ---- literals with the coefficient 1

literals_ones : (lits : List Literal) → literals (ones lits) ≡ lits
literals_ones [] = refl
literals_ones (l ∷ lits) = ap (λ ls. l ∷ ls) (literals_ones lits)

length_ones : (lits : List Literal) → length (ones lits) ≡ length lits
length_ones [] = refl
length_ones (l ∷ lits) = ap suc (length_ones lits)

-- normal terms that are literals only
only_ones : (lits : List Literal) (others terms : List (Literal × ℕ)) (degree : ℕ) → ones lits ++ others ≡ terms → others ≡ [] → IsNormal terms degree → IsNormal (ones lits) degree
only_ones lits others terms degree is none normal = subst (λ (ts : List (Literal × ℕ)). IsNormal ts degree) (sym is ∙ ap (λ ts. ones lits ++ ts) none ∙ append-nil (ones lits)) normal

pub ones_rise : (lits : List Literal) (others terms : List (Literal × ℕ)) (degree : ℕ) → ones lits ++ others ≡ terms → others ≡ [] → IsNormal terms degree → AllPairs (λ l m. l.var < m.var) lits
ones_rise lits others terms degree is none normal =
    subst (λ (ls : List Literal). AllPairs (λ l m. l.var < m.var) ls) (literals_ones lits) (rising-literals (ones lits) (only_ones lits others terms degree is none normal).merged.rising)

pub ones_small : (lits : List Literal) (others terms : List (Literal × ℕ)) (degree : ℕ) → ones lits ++ others ≡ terms → others ≡ [] → IsNormal terms degree → length lits + degree ≤ 2 ^ 100
ones_small lits others terms degree is none normal =
    let small : total (ones lits) + degree ≤ 2 ^ 100 = (only_ones lits others terms degree is none normal).small in
    let sum : total (ones lits) ≡ length (ones lits) = total_ones (ones lits) (AreOnes-ones lits) in
    let same : length (ones lits) ≡ length lits = length_ones lits in
    omega arith

-- ---- how terms rise

-- what the loop over terms keeps of them
pub record IsSum (terms : List (Literal × ℕ)) (last sum : ℕ) : Type 0 where
  pub formed : AreTerms terms
  pub last_is : last ≡ last_variable terms
  pub sum_is : sum ≡ total terms

last_push : (terms : List (Literal × ℕ)) (t : Literal × ℕ) → last_variable (terms ++ t ∷ []) ≡ t.0.var
last_push [] t = refl
last_push (u ∷ []) t = refl
last_push (u ∷ v ∷ terms) t = last_push (v ∷ terms) t

last_below : (t : Literal × ℕ) (terms : List (Literal × ℕ)) → AllPairs (λ x y. x.0.var < y.0.var) (t ∷ terms) → t.0.var ≤ last_variable (t ∷ terms)
last_below t [] rising = omega arith
last_below t (u ∷ terms) rising =
    let first : t.0.var < u.0.var = All-head (λ r. t.0.var < r.0.var) u terms (rising_head t (u ∷ terms) rising) in
    let rest : u.0.var ≤ last_variable (u ∷ terms) = last_below u terms (rising_tail t (u ∷ terms) rising) in
    omega arith

-- no variable is above the last
below_last : (terms : List (Literal × ℕ)) → AllPairs (λ x y. x.0.var < y.0.var) terms → All (λ t. t.0.var ≤ last_variable terms) terms
below_last [] rising = All-nil (λ t. t.0.var ≤ 0)
below_last (t ∷ []) rising = All-cons (λ r. r.0.var ≤ t.0.var) t [] (omega arith) (All-nil (λ r. r.0.var ≤ t.0.var))
below_last (t ∷ u ∷ terms) rising =
    All-cons (λ r. r.0.var ≤ last_variable (u ∷ terms)) t (u ∷ terms) (last_below t (u ∷ terms) rising) (below_last (u ∷ terms) (rising_tail t (u ∷ terms) rising))

total_push : (terms : List (Literal × ℕ)) (t : Literal × ℕ) → total (terms ++ t ∷ []) ≡ total terms + t.1
total_push terms t = let sum = sum_by-append (λ (u : Literal × ℕ). u.1) terms (t ∷ []) in omega (arith, sum)

total_cons : (t : Literal × ℕ) (terms : List (Literal × ℕ)) → total (t ∷ terms) ≡ t.1 + total terms
total_cons t terms = let sum = sum_by-append (λ (u : Literal × ℕ). u.1) (t ∷ []) terms in omega (arith, sum)

pub sum_more : (terms : List (Literal × ℕ)) (last sum : ℕ) (t : Literal × ℕ) → IsSum terms last sum → IsTerm t → MayFollow last sum t → IsSum (terms ++ t ∷ []) t.0.var (sum + t.1)
sum_more terms last sum t so_far valid follows =
    let merged = so_far.formed.normal.merged in
    let here : last ≡ last_variable terms = so_far.last_is in
    let more : total (terms ++ t ∷ []) ≡ total terms + t.1 = total_push terms t in
    let before : sum ≡ total terms = so_far.sum_is in
    let bound : sum + t.1 ≤ 2 ^ 100 = follows.2 in
    let above : last < t.0.var = follows.1 in
    record {
      formed = record {
        normal = record {
          merged = record {
            positive = All-push (λ u. 0 < u.1) terms t merged.positive follows.0;
            from_one = All-push (λ u. 0 < u.0.var) terms t merged.from_one (omega arith);
            rising = all_pairs_push (λ x y. x.0.var < y.0.var) terms t merged.rising (λ k d lt. let le : (get_or terms k d).0.var ≤ last_variable terms = All-get_or (λ u. u.0.var ≤ last_variable terms) terms k d lt (below_last terms merged.rising) in omega arith);
          };
          small = omega arith;
        };
        variables = All-push (λ u. IsVariable u.0.var) terms t so_far.formed.variables valid.0;
      };
      last_is = sym (last_push terms t);
      sum_is = omega arith;
    }

pub sum_pushed : (terms pushed : List (Literal × ℕ)) (last sum var : ℕ) (t : Literal × ℕ) → pushed ≡ terms ++ t ∷ [] → var ≡ t.0.var → IsSum terms last sum → IsTerm t → MayFollow last sum t → IsSum pushed var (sum + t.1)
sum_pushed terms pushed last sum var t is var_is so_far valid follows =
    subst (λ ts. IsSum ts var (sum + t.1)) (sym is) (subst (λ v. IsSum (terms ++ t ∷ []) v (sum + t.1)) (sym var_is) (sum_more terms last sum t so_far valid follows))

ones_push : (lits : List Literal) (l : Literal) → ones (lits ++ l ∷ []) ≡ ones lits ++ (l, 1) ∷ []
ones_push [] l = refl
ones_push (m ∷ lits) l = ap (λ ts. (m, 1) ∷ ts) (ones_push lits l)

-- one literal more
pub unit_more : (old here new : Words) (lits pushed : List Literal) (l : Literal) (last var : ℕ) → pushed ≡ lits ++ l ∷ [] → var ≡ l.var → length lits < 2 ^ 64 → IsVariable l.var → last < l.var → here ≡ term_words (l, 1) ++ new → ItemsSoFar term_words IsTerm AnyFollows old here (ones lits) × IsSum (ones lits) last (length lits) → ItemsSoFar term_words IsTerm AnyFollows old new (ones pushed) × IsSum (ones pushed) var (length pushed)
unit_more old here new lits pushed l last var is var_is few variable above spelled so_far =
    let valid : IsTerm (l, 1) = (variable, omega arith) in
    let more : ones pushed ≡ ones lits ++ (l, 1) ∷ [] = ap ones is ∙ ones_push lits l in
    let count : length pushed ≡ length lits + 1 = ap length is ∙ length_push lits l in (
      subst (ItemsSoFar term_words IsTerm AnyFollows old new) (sym more) (one_item_more term_words IsTerm AnyFollows old here new (ones lits) (l, 1) so_far.0 valid spelled tt),
      subst (λ n. IsSum (ones pushed) var n) (sym count) (sum_pushed (ones lits) (ones pushed) last (length lits) var (l, 1) more var_is so_far.1 valid (omega arith, above, omega arith)),
    )

rising_after : (terms : List (Literal × ℕ)) (t : Literal × ℕ) (more : List (Literal × ℕ)) → AllPairs (λ x y. x.0.var < y.0.var) (terms ++ t ∷ more) → 0 < t.0.var → last_variable terms < t.0.var
rising_after [] t more rising some = some
rising_after (u ∷ []) t more rising some = All-head (λ r. u.0.var < r.0.var) t more (rising_head u (t ∷ more) rising)
rising_after (u ∷ v ∷ terms) t more rising some = rising_after (v ∷ terms) t more (rising_tail u (v ∷ terms ++ t ∷ more) rising) some

-- the next of the terms of a constraint may follow
pub next_follows : (terms : List (Literal × ℕ)) (last sum : ℕ) (t : Literal × ℕ) (more : List (Literal × ℕ)) → IsSum terms last sum → AreTerms (terms ++ t ∷ more) → MayFollow last sum t
next_follows terms last sum t more so_far all =
    let merged = all.normal.merged in
    let from_one : 0 < t.0.var = All-head (λ u. 0 < u.0.var) t more (All-back (λ u. 0 < u.0.var) terms (t ∷ more) merged.from_one) in
    let here : last ≡ last_variable terms = so_far.last_is in
    let after : last_variable terms < t.0.var = rising_after terms t more merged.rising from_one in
    let whole : total (terms ++ t ∷ more) ≡ total terms + total (t ∷ more) = sum_by-append (λ (u : Literal × ℕ). u.1) terms (t ∷ more) in
    let rest : total (t ∷ more) ≡ t.1 + total more = total_cons t more in
    let small : total (terms ++ t ∷ more) + 0 ≤ 2 ^ 100 = all.normal.small in
    let before : sum ≡ total terms = so_far.sum_is in
    (All-head (λ u. 0 < u.1) t more (All-back (λ u. 0 < u.1) terms (t ∷ more) merged.positive), omega arith, omega arith)

-- ---- how terms are spelled

-- the terms of a constraint can be read
coefficient_fits : (terms : List (Literal × ℕ)) → total terms ≤ 2 ^ 100 → All (λ t. t.1 < 2 ^ 127) terms
coefficient_fits [] small = All-nil (λ t. t.1 < 2 ^ 127)
coefficient_fits (t ∷ terms) small =
    let whole : total (t ∷ terms) ≡ t.1 + total terms = total_cons t terms in
    All-cons (λ u. u.1 < 2 ^ 127) t terms (omega arith) (coefficient_fits terms (omega arith))

both : (terms : List (Literal × ℕ)) → All (λ t. IsVariable t.0.var) terms → All (λ t. t.1 < 2 ^ 127) terms → All IsTerm terms
both [] variables fits = All-nil IsTerm
both (t ∷ terms) variables fits = All-cons IsTerm t terms (All-head (λ u. IsVariable u.0.var) t terms variables, All-head (λ u. u.1 < 2 ^ 127) t terms fits) (both terms (All-tail (λ u. IsVariable u.0.var) t terms variables) (All-tail (λ u. u.1 < 2 ^ 127) t terms fits))

pub terms_valid : (terms : List (Literal × ℕ)) → AreTerms terms → All IsTerm terms
terms_valid terms all =
    let small : total terms + 0 ≤ 2 ^ 100 = all.normal.small in
    both terms all.variables (coefficient_fits terms (omega arith))

-- what the loop over terms begins with
pub units_begin : (old new : Words) (lits : List Literal) (terms : List (Literal × ℕ)) (last sum : ℕ) → terms ≡ ones lits → sum ≡ length lits → AreTerms (ones lits) × (last ≡ last_variable (ones lits)) × (old ≡ flat_map term_words (ones lits) ++ new) → ItemsSoFar term_words IsTerm AnyFollows old new terms × IsSum terms last sum
units_begin old new lits terms last sum is count read =
    let so_far : ItemsSoFar term_words IsTerm AnyFollows old new (ones lits) = record { is = read.2; valid = terms_valid (ones lits) read.0; ended = any_ended (ones lits) new } in
    let sums : IsSum (ones lits) last sum = record { formed = read.0; last_is = read.1; sum_is = count ∙ sym (length_ones lits) ∙ sym (total_ones (ones lits) (AreOnes-ones lits)) } in
    (subst (ItemsSoFar term_words IsTerm AnyFollows old new) (sym is) so_far, subst (λ (ts : List (Literal × ℕ)). IsSum ts last sum) (sym is) sums)

same_term : (t u : Literal × ℕ) → t.0 ≡ u.0 → t.1 ≡ u.1 → t ≡ u
same_term t u lit coefficient =
    let made : Literal → ℕ → Literal × ℕ = λ l n. (l, n) in
    ap (λ l. made l t.1) lit ∙ ap (λ n. made u.0 n) coefficient

abbrev pub BeginsBound : Words → Type 0
BeginsBound words = BeginsWith (62 ∷ 61 ∷ []) words

pub term_code : IsCode term_words IsTerm AnyFollows BeginsBound
term_code = record {
  one = λ t u r s valid other first second e.
      let coefficient : t.1 < 2 ^ 127 = valid.1 in
      let other_coefficient : u.1 < 2 ^ 127 = other.1 in
      let rest = tail_same (decimal t.1) (decimal u.1) (literal_word t.0 ∷ r) (literal_word u.0 ∷ s) e in
      (same_term t u (one_literal t.0 u.0 valid.0 other.0 (head_same _ _ _ _ rest)) (one_number t.1 u.1 (omega arith) (omega arith) (head_same _ _ _ _ e)), tail_same _ _ _ _ rest);
  joins = λ t u r valid other. tt;
  stops = λ t r valid ends. tt;
  no_end = λ t r valid ends. let coefficient : t.1 < 2 ^ 127 = valid.1 in no_decimal t.1 (omega arith) (62 ∷ 61 ∷ []) (λ digit. omega arith) ends;
}

-- ---- the reader of terms

abbrev pub TermsSoFar : Words → Words → List (Literal × ℕ) → Type 0
TermsSoFar old new terms = ItemsSoFar term_words IsTerm AnyFollows old new terms

-- where no words are left, no terms with `>=` after them begin
pub no_bound : (old here : Words) (terms : List (Literal × ℕ)) → TermsSoFar old here terms → here ≡ [] → (all : List (Literal × ℕ)) (rest : Words) → AreTerms all → old ≡ flat_map term_words all ++ (62 ∷ 61 ∷ []) ∷ rest → ⊥
no_bound old here terms so_far none all rest formed is =
    no_item_here term_words IsTerm AnyFollows BeginsBound term_code old here terms so_far
    (λ begins. subst BeginsBound none begins)
    (λ t r valid any follows. cc (none, follows))
    all ((62 ∷ 61 ∷ []) ∷ rest) (terms_valid all formed) refl is

-- where no term follows, neither
pub no_term_here : (old here next_words : Words) (next : List ℕ) (terms : List (Literal × ℕ)) → TermsSoFar old here terms → here ≡ next ∷ next_words → (next ≡ 62 ∷ 61 ∷ [] → ⊥) → ((t : Literal × ℕ) (r : Words) → IsTerm t → next ∷ next_words ≡ term_words t ++ r → ⊥) → (all : List (Literal × ℕ)) (rest : Words) → AreTerms all → old ≡ flat_map term_words all ++ (62 ∷ 61 ∷ []) ∷ rest → ⊥
no_term_here old here next_words next terms so_far follows open_bound none all rest formed is =
    no_item_here term_words IsTerm AnyFollows BeginsBound term_code old here terms so_far
    (λ begins. open_bound (subst BeginsBound follows begins))
    (λ t r valid any is_term. none t r valid (sym follows ∙ is_term))
    all ((62 ∷ 61 ∷ []) ∷ rest) (terms_valid all formed) refl is

-- where a term follows that may not, neither
pub wrong_term_here : (old here new : Words) (terms : List (Literal × ℕ)) (last sum : ℕ) (t : Literal × ℕ) → TermsSoFar old here terms → IsSum terms last sum → IsTerm t → here ≡ term_words t ++ new → (MayFollow last sum t → ⊥) → (all : List (Literal × ℕ)) (rest : Words) → AreTerms all → old ≡ flat_map term_words all ++ (62 ∷ 61 ∷ []) ∷ rest → ⊥
wrong_term_here old here new terms last sum t so_far is_sum valid follows wrong all rest formed is =
    let other = other_items term_words IsTerm AnyFollows BeginsBound term_code old here terms so_far all ((62 ∷ 61 ∷ []) ∷ rest) (terms_valid all formed) refl is in
    by other.0 other.1 other.2
  where
    by : (more : List (Literal × ℕ)) → here ≡ flat_map term_words more ++ (62 ∷ 61 ∷ []) ∷ rest → all ≡ terms ++ more → ⊥
    by [] begins whole = term_code.no_end t new valid (sym (head_same _ _ _ _ (sym begins ∙ follows)))
    by (u ∷ more) begins whole =
        let formed_all : AreTerms (terms ++ u ∷ more) = subst AreTerms whole formed in
        let u_valid : IsTerm u = All-head IsTerm u more (All-back IsTerm terms (u ∷ more) (terms_valid (terms ++ u ∷ more) formed_all)) in
        let one = term_code.one u t (flat_map term_words more ++ (62 ∷ 61 ∷ []) ∷ rest) new u_valid valid tt tt (sym begins ∙ follows) in
        wrong (subst (MayFollow last sum) one.0 (next_follows terms last sum u more is_sum formed_all))

-- one list of terms is spelled before `>=`
pub one_terms : (terms others : List (Literal × ℕ)) (r s : Words) → AreTerms terms → AreTerms others → flat_map term_words terms ++ (62 ∷ 61 ∷ []) ∷ r ≡ flat_map term_words others ++ (62 ∷ 61 ∷ []) ∷ s → (terms ≡ others) × (r ≡ s)
one_terms terms others r s left right e =
    let same = one_list term_words IsTerm AnyFollows BeginsBound term_code terms others ((62 ∷ 61 ∷ []) ∷ r) ((62 ∷ 61 ∷ []) ∷ s) (terms_valid terms left) (terms_valid others right) refl refl e in
    (same.0, tail_same _ _ _ _ same.1)

-- ---- the reader of a constraint

-- the words of a constraint, and what follows them
pub constraint_words_is : (c : ConstraintValue) (rest : Words) → constraint_words c ++ rest ≡ flat_map term_words c.terms ++ (62 ∷ 61 ∷ []) ∷ decimal c.degree ∷ rest
constraint_words_is c rest = append_assoc (flat_map term_words c.terms) ((62 ∷ 61 ∷ []) ∷ decimal c.degree ∷ []) rest

pub terms_of_constraint : (c : ConstraintValue) → IsConstraint c → AreTerms c.terms
terms_of_constraint c formed =
    let small : total c.terms + c.degree ≤ 2 ^ 100 = formed.normal.small in
    record { normal = record { merged = formed.normal.merged; small = omega arith }; variables = formed.variables }

same_constraint : (c d : ConstraintValue) → c.terms ≡ d.terms → c.degree ≡ d.degree → c ≡ d
same_constraint c d terms degree =
    let made : List (Literal × ℕ) → ℕ → ConstraintValue = λ ts n. record { terms = ts; degree = n } in
    ap (λ ts. made ts c.degree) terms ∙ ap (λ n. made d.terms n) degree

-- words begin with one constraint at most
pub one_constraint : (c d : ConstraintValue) (r s : Words) → IsConstraint c → IsConstraint d → constraint_words c ++ r ≡ constraint_words d ++ s → (c ≡ d) × (r ≡ s)
one_constraint c d r s left right e =
    let same = one_terms c.terms d.terms (decimal c.degree ∷ r) (decimal d.degree ∷ s) (terms_of_constraint c left) (terms_of_constraint d right) (sym (constraint_words_is c r) ∙ e ∙ constraint_words_is d s) in
    let small : total c.terms + c.degree ≤ 2 ^ 100 = left.normal.small in
    let other_small : total d.terms + d.degree ≤ 2 ^ 100 = right.normal.small in
    (same_constraint c d same.0 (one_number c.degree d.degree (omega arith) (omega arith) (head_same _ _ _ _ same.1)), tail_same _ _ _ _ same.1)

-- where no terms begin, no constraint does
pub terms_wrong : (f : LineFault) (old new after : Words) → ReadsTerms old new (Err f) → Reads constraint_words IsConstraint old after (Err f)
terms_wrong Syntax old new after none = λ c rest valid spelled. none c.terms (decimal c.degree ∷ rest) (terms_of_constraint c valid) (spelled ∙ constraint_words_is c rest)
terms_wrong NoMemory old new after none = tt

pub sum_small : (terms : List (Literal × ℕ)) (sum : ℕ) → AreTerms terms → sum ≡ total terms → sum ≤ 2 ^ 100
sum_small terms sum formed sum_is = let small : total terms + 0 ≤ 2 ^ 100 = formed.normal.small in omega arith

-- terms with a degree that keeps the size small
pub normal_with : (terms : List (Literal × ℕ)) (sum degree : ℕ) → AreTerms terms → sum ≡ total terms → sum + degree ≤ 2 ^ 100 → IsNormal terms degree
normal_with terms sum degree formed sum_is small = record { merged = formed.normal.merged; small = omega arith }

pub constraint_read : (old here new : Words) (terms : List (Literal × ℕ)) (sum degree : ℕ) (c : ConstraintValue) → AreTerms terms × (sum ≡ total terms) × (old ≡ flat_map term_words terms ++ (62 ∷ 61 ∷ []) ∷ here) → (sum + degree ≤ 2 ^ 100) × (here ≡ decimal degree ∷ new) → c ≡ record { terms = terms; degree = degree } → IsConstraint c × (old ≡ constraint_words c ++ new)
constraint_read old here new terms sum degree c read last is =
    let made : ConstraintValue = record { terms = terms; degree = degree } in
    let valid : IsConstraint made = record { normal = normal_with terms sum degree read.0 read.1 last.0; variables = read.0.variables } in
    let words : old ≡ constraint_words made ++ new = read.2 ∙ ap (λ ws. flat_map term_words terms ++ (62 ∷ 61 ∷ []) ∷ ws) last.1 ∙ sym (constraint_words_is made new) in
    subst (λ (d : ConstraintValue). IsConstraint d × (old ≡ constraint_words d ++ new)) (sym is) (valid, words)

-- where terms but no degree follow, no constraint begins
pub no_degree : (old new : Words) (terms : List (Literal × ℕ)) (sum : ℕ) → AreTerms terms → sum ≡ total terms → old ≡ flat_map term_words terms ++ (62 ∷ 61 ∷ []) ∷ new → ((d : ℕ) (rest : Words) → sum + d ≤ 2 ^ 100 → new ≡ decimal d ∷ rest → ⊥) → (c : ConstraintValue) (rest : Words) → IsConstraint c → old ≡ constraint_words c ++ rest → ⊥
no_degree old new terms sum formed sum_is is none c rest valid spelled =
    let same = one_terms terms c.terms new (decimal c.degree ∷ rest) formed (terms_of_constraint c valid) (sym is ∙ spelled ∙ constraint_words_is c rest) in
    let small : total c.terms + c.degree ≤ 2 ^ 100 = valid.normal.small in
    let sums : total terms ≡ total c.terms = ap total same.0 in
    none c.degree rest (omega arith) same.1

-- a degree that is too large
pub degree_wrong : (old new : Words) (word : List ℕ) (sum degree : ℕ) → old ≡ word ∷ new → sum ≤ 2 ^ 100 → degree < 2 ^ 127 → word ≡ decimal degree → (sum + degree ≤ 2 ^ 100 → ⊥) → (d : ℕ) (rest : Words) → sum + d ≤ 2 ^ 100 → old ≡ decimal d ∷ rest → ⊥
degree_wrong old new word sum degree is below fits spelled large d rest small other =
    let same : degree ≡ d = one_number degree d (omega arith) (omega arith) (sym spelled ∙ head_same _ _ _ _ (sym is ∙ other)) in
    large (omega arith)
