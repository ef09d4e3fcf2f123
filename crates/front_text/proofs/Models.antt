-- A text begins with one line of values at most.
use Rattle.std.proofs.Common.{◌≡◌, ℕ, suc, ◌+◌, ◌<◌, ◌≤◌, ◌^◌, Bool, true, false, List, [], ◌∷◌, ◌++◌, length, get_or, refl, sym, ap, ◌∙◌, arith, length-append}
use Rattle.std.specs.Fmt.{decimal}
use Rattle.std.proofs.lemmas.List.{append_assoc, append-nil, append_cancel_left, get_or_append_left}
use Rattle.std.proofs.lemmas.Fmt.{first_decimal, decimal_nonempty}
use Rattle.scut_base.proofs.Lists.{tail_same}
use Rattle.front_set.specs.ListText.{literal_text, literals_from, model_line}
use Rattle.front_text.specs.Reading.{Skips, BeginsWithNone}
use Rattle.front_text.proofs.Parts.{cons_same}
use Rattle.front_text.proofs.Words.{heads_apart}

-- how a line of values ends
abbrev pub line_end : List ℕ → List ℕ
line_end rest = 32 ∷ 48 ∷ 10 ∷ rest

pub model_line_is : (model : List Bool) (rest : List ℕ) → model_line model ++ rest ≡ 118 ∷ (literals_from 1 model ++ line_end rest)
model_line_is model rest =
    let lits = literals_from 1 model in
    ap (λ t. 118 ∷ t) (append_assoc (lits ++ 32 ∷ 48 ∷ []) (10 ∷ []) rest ∙ append_assoc lits (32 ∷ 48 ∷ []) (10 ∷ rest))

-- a variable's number begins with a digit above 0
decimal_above : (k : ℕ) (x : List ℕ) → 0 < k → k < 2 ^ 64 → 48 < get_or (decimal k ++ x) 0 0
decimal_above k x some small =
    let first : 48 < get_or (decimal k) 0 0 = first_decimal k some small in
    let same : get_or (decimal k ++ x) 0 0 ≡ get_or (decimal k) 0 0 = get_or_append_left (decimal k) x 0 0 (decimal_nonempty k small) in
    omega arith

-- a literal doesn't begin as the end of the line does
literal_no_end : (b : Bool) (k : ℕ) (x y : List ℕ) → 0 < k → k < 2 ^ 64 → literal_text b k ++ x ≡ 48 ∷ y → ⊥
literal_no_end true k x y some small e =
    let first : 48 < get_or (decimal k ++ x) 0 0 = decimal_above k x some small in
    let same : get_or (decimal k ++ x) 0 0 ≡ 48 = ap (λ t. get_or t 0 0) e in
    omega arith
literal_no_end false k x y some small e = heads_apart 45 48 _ _ refl e

minus_apart : (k : ℕ) (x y : List ℕ) → 0 < k → k < 2 ^ 64 → decimal k ++ x ≡ 45 ∷ y → ⊥
minus_apart k x y some small e =
    let first : 48 < get_or (decimal k ++ x) 0 0 = decimal_above k x some small in
    let same : get_or (decimal k ++ x) 0 0 ≡ 45 = ap (λ t. get_or t 0 0) e in
    omega arith

one_literal : (b d : Bool) (k : ℕ) (x y : List ℕ) → 0 < k → k < 2 ^ 64 → literal_text b k ++ x ≡ literal_text d k ++ y → (b ≡ d) × (x ≡ y)
one_literal true true k x y some small e = (refl, append_cancel_left (decimal k) x y e)
one_literal false false k x y some small e = (refl, append_cancel_left (decimal k) x y (tail_same 45 45 _ _ e))
one_literal true false k x y some small e = absurd (minus_apart k x _ some small e)
one_literal false true k x y some small e = absurd (minus_apart k y _ some small (sym e))

-- what follows some of the literals of a line are its other literals
pub literals_rest : (k : ℕ) (bs : List Bool) (t : List ℕ) (ds : List Bool) (s : List ℕ) → 0 < k → k + length bs ≤ 2 ^ 64 → literals_from k bs ++ t ≡ literals_from k ds ++ line_end s → (es : List Bool) × (t ≡ literals_from (k + length bs) es ++ line_end s) × (ds ≡ bs ++ es)
literals_rest k [] t ds s some small e = let same : k ≡ k + 0 = omega arith in (ds, e ∙ ap (λ m. literals_from m ds ++ line_end s) same, refl)
literals_rest k (b ∷ bs) t [] s some small e =
    let e' : literal_text b k ++ (literals_from (k + 1) bs ++ t) ≡ 48 ∷ 10 ∷ s = sym (append_assoc (literal_text b k) (literals_from (k + 1) bs) t) ∙ tail_same 32 32 _ _ e in
    absurd (literal_no_end b k _ _ some (omega arith) e')
literals_rest k (b ∷ bs) t (d ∷ ds) s some small e =
    let e' : literal_text b k ++ (literals_from (k + 1) bs ++ t) ≡ literal_text d k ++ (literals_from (k + 1) ds ++ line_end s) = sym (append_assoc (literal_text b k) (literals_from (k + 1) bs) t) ∙ tail_same 32 32 _ _ e ∙ append_assoc (literal_text d k) (literals_from (k + 1) ds) (line_end s) in
    let one = one_literal b d k _ _ some (omega arith) e' in
    let rest = literals_rest (k + 1) bs t ds s (omega arith) (omega arith) one.1 in
    let place : k + 1 + length bs ≡ k + length (b ∷ bs) = omega arith in
    (rest.0, rest.1 ∙ ap (λ m. literals_from m rest.0 ++ line_end s) place, cons_same d b ds (bs ++ rest.0) (sym one.0) rest.2)

pub one_model_line : (bs ds : List Bool) (r s : List ℕ) → 1 + length bs < 2 ^ 64 → model_line bs ++ r ≡ model_line ds ++ s → (bs ≡ ds) × (r ≡ s)
one_model_line bs ds r s small e =
    let e' : literals_from 1 bs ++ line_end r ≡ literals_from 1 ds ++ line_end s = tail_same 118 118 _ _ (sym (model_line_is bs r) ∙ e ∙ model_line_is ds s) in
    let rest = literals_rest 1 bs (line_end r) ds s (omega arith) (omega arith) e' in
    by rest.0 rest.1 rest.2
  where
    by : (es : List Bool) → line_end r ≡ literals_from (1 + length bs) es ++ line_end s → ds ≡ bs ++ es → (bs ≡ ds) × (r ≡ s)
    by [] is all = (sym (all ∙ append-nil bs), tail_same 10 10 r s (tail_same 48 48 _ _ (tail_same 32 32 _ _ is)))
    by (x ∷ es) is all = absurd (literal_no_end x (1 + length bs) _ _ (omega arith) small (sym (append_assoc (literal_text x (1 + length bs)) (literals_from (1 + length bs + 1) es) (line_end s)) ∙ sym (tail_same 32 32 _ _ is)))

-- each value takes a byte at least
pub literals_length : (k : ℕ) (bs : List Bool) → length bs ≤ length (literals_from k bs)
literals_length k [] = omega arith
literals_length k (b ∷ bs) =
    let rest : length bs ≤ length (literals_from (k + 1) bs) = literals_length (k + 1) bs in
    let sum : length (literals_from k (b ∷ bs)) ≡ length (32 ∷ literal_text b k) + length (literals_from (k + 1) bs) = length-append (32 ∷ literal_text b k) (literals_from (k + 1) bs) in
    omega arith

pub model_line_length : (model : List Bool) → length model + 4 ≤ length (model_line model)
model_line_length model =
    let lits = literals_from 1 model in
    let least : length model ≤ length lits = literals_length 1 model in
    let inner : length (lits ++ 32 ∷ 48 ∷ []) ≡ length lits + 2 = length-append lits (32 ∷ 48 ∷ []) in
    let outer : length ((lits ++ 32 ∷ 48 ∷ []) ++ 10 ∷ []) ≡ length (lits ++ 32 ∷ 48 ∷ []) + 1 = length-append (lits ++ 32 ∷ 48 ∷ []) (10 ∷ []) in
    let line : length (model_line model) ≡ suc (length ((lits ++ 32 ∷ 48 ∷ []) ++ 10 ∷ [])) = refl in
    omega arith

-- ---- the reader's loop

-- the values so far, and what follows their literals
pub record ValuesSoFar (old new : List ℕ) (values : List Bool) : Type 0 where
  pub is : old ≡ 118 ∷ (literals_from 1 values ++ new)

-- the other literals of any line of values that begins here
pub other_values : (old new : List ℕ) (values : List Bool) → ValuesSoFar old new values → 1 + length values ≤ 2 ^ 64 → (ds : List Bool) (s : List ℕ) → old ≡ model_line ds ++ s → (es : List Bool) × (new ≡ literals_from (1 + length values) es ++ line_end s) × (ds ≡ values ++ es)
other_values old new values so_far small ds s e = literals_rest 1 values new ds s (omega arith) small (tail_same 118 118 _ _ (sym so_far.is ∙ e ∙ model_line_is ds s))

-- one value more
literals_push : (k : ℕ) (bs : List Bool) (b : Bool) (t : List ℕ) → literals_from k (bs ++ b ∷ []) ++ t ≡ literals_from k bs ++ (32 ∷ (literal_text b (k + length bs) ++ t))
literals_push k [] b t = let same : k ≡ k + 0 = omega arith in ap (λ u. (32 ∷ u) ++ t) (append-nil (literal_text b k)) ∙ ap (λ m. 32 ∷ (literal_text b m ++ t)) same
literals_push k (c ∷ bs) b t =
    let place : k + 1 + length bs ≡ k + length (c ∷ bs) = omega arith in
    append_assoc (32 ∷ literal_text c k) (literals_from (k + 1) (bs ++ b ∷ [])) t
    ∙ ap (λ u. (32 ∷ literal_text c k) ++ u) (literals_push (k + 1) bs b t ∙ ap (λ m. literals_from (k + 1) bs ++ (32 ∷ (literal_text b m ++ t))) place)
    ∙ sym (append_assoc (32 ∷ literal_text c k) (literals_from (k + 1) bs) (32 ∷ (literal_text b (k + length (c ∷ bs)) ++ t)))

pub one_value_more : (old here next new : List ℕ) (values more : List Bool) (b : Bool) (k : ℕ) → ValuesSoFar old here values → here ≡ 32 ∷ next → next ≡ literal_text b k ++ new → k ≡ length values + 1 → more ≡ values ++ b ∷ [] → ValuesSoFar old new more
one_value_more old here next new values more b k so_far space literal place all =
    let same : k ≡ 1 + length values = omega arith in
    let follows : here ≡ 32 ∷ (literal_text b (1 + length values) ++ new) = space ∙ ap (λ t. 32 ∷ t) (literal ∙ ap (λ m. literal_text b m ++ new) same) in
    let grown : literals_from 1 values ++ here ≡ literals_from 1 more ++ new = ap (λ t. literals_from 1 values ++ t) follows ∙ sym (literals_push 1 values b new) ∙ ap (λ bs. literals_from 1 bs ++ new) (sym all) in
    record { is = so_far.is ∙ ap (λ t. 118 ∷ t) grown }

-- where neither the end of the line nor a literal of the next variable follows, no line of values begins
pub no_more_values : (old here : List ℕ) (values : List Bool) → ValuesSoFar old here values → 1 + length values ≤ 2 ^ 64 → ((rest : List ℕ) → here ≡ line_end rest → ⊥) → ((b : Bool) (rest : List ℕ) → here ≡ 32 ∷ (literal_text b (1 + length values) ++ rest) → ⊥) → BeginsWithNone model_line (λ _. Unit {0}) old
no_more_values old here values so_far small no_end no_literal ds rest valid is =
    let other = other_values old here values so_far small ds rest is in
    by other.0 other.1
  where
    by : (es : List Bool) → here ≡ literals_from (1 + length values) es ++ line_end rest → ⊥
    by [] follows = no_end rest follows
    by (b ∷ es) follows = no_literal b (literals_from (1 + length values + 1) es ++ line_end rest) (follows ∙ append_assoc (32 ∷ literal_text b (1 + length values)) (literals_from (1 + length values + 1) es) (line_end rest))

pub no_literal_after_space : (old here next : List ℕ) (values : List Bool) (k : ℕ) → ValuesSoFar old here values → 1 + length values ≤ 2 ^ 64 → ((rest : List ℕ) → here ≡ line_end rest → ⊥) → here ≡ 32 ∷ next → k ≡ length values + 1 → BeginsWithNone (λ b. literal_text b k) (λ _. Unit {0}) next → BeginsWithNone model_line (λ _. Unit {0}) old
no_literal_after_space old here next values k so_far small no_end space place none =
    let same : 1 + length values ≡ k = omega arith in
    no_more_values old here values so_far small no_end (λ b rest follows. none b rest tt (tail_same 32 32 _ _ (sym space ∙ follows) ∙ ap (λ m. literal_text b m ++ rest) same))

-- a literal is one of two texts
pub no_literal : (old next text : List ℕ) (k : ℕ) (negative : Bool) → 0 < k → k < 2 ^ 64 → text ≡ decimal k → Skips (45 ∷ []) old next negative → ((rest : List ℕ) → next ≡ text ++ rest → ⊥) → BeginsWithNone (λ b. literal_text b k) (λ _. Unit {0}) old
no_literal old next text k true some small is minus none true rest valid follows = minus_apart k rest next some small (sym follows ∙ minus)
no_literal old next text k true some small is minus none false rest valid follows = none rest (tail_same 45 45 _ _ (sym minus ∙ follows) ∙ ap (λ t. t ++ rest) (sym is))
no_literal old next text k false some small is minus none true rest valid follows = none rest (minus.0 ∙ follows ∙ ap (λ t. t ++ rest) (sym is))
no_literal old next text k false some small is minus none false rest valid follows = minus.1 (decimal k ++ rest) follows
