-- Pieces of ids that follow one another: they hold the ids, and their words tell them apart.
use Rattle.std.proofs.Common.{◌≡◌, ◌⊎◌, ℕ, zero, suc, ◌+◌, ◌-◌, ◌^◌, ◌<◌, ◌≤◌, ◌==◌, ◌&&◌, nat_lt, Bool, true, false, cond, List, [], ◌∷◌, ◌++◌, map, length, drop, get_or, refl, sym, ap, subst, inl, inr, ◌∙◌, arith}
use Rattle.std.specs.Fmt.{decimal}
use Rattle.std.specs.Int.{IsInRange}
use Rattle.std.specs.Str.Parse.{AllDigits}
use Rattle.std.proofs.lemmas.Bool.Decides.{nat_tests}
use Rattle.std.proofs.lemmas.Str.Parse.{digit_from_value}
use Rattle.std.specs.List.{All, flat_map, range_with_len, slice_split}
use Rattle.std.proofs.lemmas.Bool.{and_parts, cond-true, cond-false, eqb-true, ltb-true, eq-eqb}
use Rattle.std.proofs.lemmas.List.{append_assoc, append-nil}
use Rattle.std.proofs.lemmas.List.Concat.{flat_map-append}
use Rattle.std.proofs.lemmas.List.Elements.{All-append, All-nil, All-cons, All-head, All-tail}
use Rattle.std.proofs.lemmas.List.Splits.{slice_split_none, slice_split_at}
use Rattle.scut_base.proofs.Lists.{head_same, tail_same}
use Rattle.proof_laws.specs.WellFormed.{IsId}
use Rattle.proof_lines.specs.declared.spelling.Spelling.{Spelling}
use Rattle.proof_lines.specs.declared.spelling.Spelling.TheVariants.{Plain, Relative}
use Rattle.proof_lines.specs.Ids.{IsSpelling, belongs, deleted_words, id_word, is_made, piece_ids, piece_word, pieces, pieces_from, spelled_piece, spelled_pieces}
use Rattle.proof_lines.specs.Pieces.{IsPiece, IsRun, is_dot, pieces_after}
use Rattle.proof_lines.proofs.Numbers.{decimal_digits}
use Rattle.proof_lines.proofs.IdWords.{id_by, no_id, one_id}
use Rattle.proof_lines.proofs.Codes.{IsWordCode, id_code}
use Rattle.proof_lines.proofs.WordParts.{one_part}

-- ---- the ids of pieces

range_more : (a n : ℕ) → range_with_len a (suc n) ≡ range_with_len a n ++ (a + n) ∷ []
range_more a zero = let e : a ≡ a + zero = omega arith in ap (λ (k : ℕ). k ∷ []) e
range_more a (suc n) =
    let e : (a + 1) + n ≡ a + suc n = omega arith in
    ap (λ (ks : List ℕ). a ∷ ks) (range_more (a + 1) n) ∙ ap (λ (k : ℕ). a ∷ (range_with_len (a + 1) n ++ k ∷ [])) e

append_cons : (xs : List ℕ) (y : ℕ) (ys : List ℕ) → (xs ++ y ∷ []) ++ ys ≡ xs ++ y ∷ ys
append_cons [] y ys = refl
append_cons (x ∷ xs) y ys = ap (λ (zs : List ℕ). x ∷ zs) (append_cons xs y ys)

-- the ids up to the next one
longer : (first last id : ℕ) → first ≤ last → id ≡ last + 1 → piece_ids (first, id) ≡ piece_ids (first, last) ++ id ∷ []
longer first last id order next =
    let one : (id + 1) - first ≡ suc ((last + 1) - first) = omega arith in
    let two : first + ((last + 1) - first) ≡ id = omega arith in
    ap (range_with_len first) one ∙ range_more first ((last + 1) - first) ∙ ap (λ (k : ℕ). range_with_len first ((last + 1) - first) ++ k ∷ []) two

single : (id : ℕ) → piece_ids (id, id) ≡ id ∷ []
single id = let one : (id + 1) - id ≡ 1 = omega arith in ap (range_with_len id) one

holds_from : (first last : ℕ) (ids : List ℕ) → first ≤ last → flat_map piece_ids (pieces_from first last ids) ≡ piece_ids (first, last) ++ ids
unfolding pieces_from
holds_from first last [] order = refl
holds_from first last (id ∷ ids) order = by_test (belongs first last id) refl
    (λ more. holds_from first id ids (let next : id ≡ last + 1 = eqb-true id (last + 1) more in omega arith))
    (holds_from id id ids (omega arith))
  where
    by_test : (b : Bool) → belongs first last id ≡ b
        → (id == last + 1 ≡ true → flat_map piece_ids (pieces_from first id ids) ≡ piece_ids (first, id) ++ ids)
        → flat_map piece_ids (pieces_from id id ids) ≡ piece_ids (id, id) ++ ids
        → flat_map piece_ids (cond b (pieces_from first id ids) ((first, last) ∷ pieces_from id id ids)) ≡ piece_ids (first, last) ++ id ∷ ids
    by_test true test joined apart =
        let parts = and_parts _ _ test in
        let next : id ≡ last + 1 = eqb-true id (last + 1) parts.0 in
        joined parts.0 ∙ ap (λ (ks : List ℕ). ks ++ ids) (longer first last id order next) ∙ append_cons (piece_ids (first, last)) id ids
    by_test false test joined apart = ap (λ (ks : List ℕ). piece_ids (first, last) ++ ks) (apart ∙ ap (λ (ks : List ℕ). ks ++ ids) (single id))

pieces_hold : (ids : List ℕ) → flat_map piece_ids (pieces ids) ≡ ids
unfolding pieces
pieces_hold [] = refl
pieces_hold (id ∷ ids) = holds_from id id ids (omega arith) ∙ ap (λ (ks : List ℕ). ks ++ ids) (single id)

-- two ids that stand singly are the same ids
spelled_by : (p : ℕ × ℕ) (b : Bool) → p.1 == p.0 + 1 ≡ b → flat_map piece_ids (cond b ((p.0, p.0) ∷ (p.1, p.1) ∷ []) (p ∷ [])) ≡ piece_ids p
spelled_by p true test =
    let next : p.1 ≡ p.0 + 1 = eqb-true p.1 (p.0 + 1) test in
    let singles : piece_ids (p.0, p.0) ++ (piece_ids (p.1, p.1) ++ []) ≡ p.0 ∷ p.1 ∷ [] = ap (λ (ks : List ℕ). ks ++ (piece_ids (p.1, p.1) ++ [])) (single p.0) ∙ ap (λ (ks : List ℕ). p.0 ∷ (ks ++ [])) (single p.1) in
    singles ∙ sym (longer p.0 p.0 p.1 (omega arith) next ∙ ap (λ (ks : List ℕ). ks ++ p.1 ∷ []) (single p.0))
spelled_by p false test = append-nil (piece_ids p)

spelled_hold : (ps : List (ℕ × ℕ)) → flat_map piece_ids (flat_map spelled_piece ps) ≡ flat_map piece_ids ps
spelled_hold [] = refl
spelled_hold (p ∷ ps) =
    flat_map-append piece_ids (spelled_piece p) (flat_map spelled_piece ps)
    ∙ ap (λ (ks : List ℕ). ks ++ flat_map piece_ids (flat_map spelled_piece ps)) (spelled_by p (p.1 == p.0 + 1) refl)
    ∙ ap (λ (ks : List ℕ). piece_ids p ++ ks) (spelled_hold ps)

-- the pieces that are spelled hold the ids, in order
pub held : (ids : List ℕ) → flat_map piece_ids (spelled_pieces ids) ≡ ids
held ids = spelled_hold (pieces ids) ∙ pieces_hold ids

-- ---- how they are found, id by id

pub none_spelled : (ids : List ℕ) → length ids < 1 → [] ≡ spelled_pieces ids
unfolding pieces
none_spelled [] none = refl
none_spelled (id ∷ ids) none = absurd (omega arith)

first_spelled : (ids : List ℕ) (first : ℕ) → 0 < length ids → first ≡ get_or ids 0 0 → pieces_after (first, first) (drop 1 ids) ≡ spelled_pieces ids
unfolding pieces
first_spelled [] first some is = absurd (omega arith)
first_spelled (id ∷ ids) first some is = ap (λ n. pieces_after (n, n) ids) is

pub begin_spelled : (ids : List ℕ) (first : ℕ) (start : List (ℕ × ℕ)) (rest : List ℕ) → start ≡ [] → 1 ≤ length ids → first ≡ get_or ids 0 0 → rest ≡ drop 1 ids → start ++ pieces_after (first, first) (drop 0 rest) ≡ spelled_pieces ids
begin_spelled ids first start rest none some is part =
    ap (λ ps. ps ++ pieces_after (first, first) (drop 0 rest)) none ∙ ap (pieces_after (first, first)) part ∙ first_spelled ids first (omega arith) is

pub goes_on : (first last id : ℕ) (rest : List ℕ) → belongs first last id ≡ true → pieces_after (first, last) (id ∷ rest) ≡ pieces_after (first, id) rest
unfolding pieces_from
goes_on first last id rest test = ap (flat_map spelled_piece) (cond-true (belongs first last id) (pieces_from first id rest) ((first, last) ∷ pieces_from id id rest) test)

starts_anew : (first last id : ℕ) (rest : List ℕ) → belongs first last id ≡ false → pieces_after (first, last) (id ∷ rest) ≡ spelled_piece (first, last) ++ pieces_after (id, id) rest
unfolding pieces_from
starts_anew first last id rest test = ap (flat_map spelled_piece) (cond-false (belongs first last id) (pieces_from first id rest) ((first, last) ∷ pieces_from id id rest) test)

pub piece_ended : (first last id : ℕ) (rest : List ℕ) (old new : List (ℕ × ℕ)) → new ≡ old ++ spelled_piece (first, last) → belongs first last id ≡ false → new ++ pieces_after (id, id) rest ≡ old ++ pieces_after (first, last) (id ∷ rest)
piece_ended first last id rest old new pushed test =
    ap (λ ps. ps ++ pieces_after (id, id) rest) pushed ∙ append_assoc old (spelled_piece (first, last)) (pieces_after (id, id) rest)
    ∙ ap (λ ps. old ++ ps) (sym (starts_anew first last id rest test))

pub all_spelled : (p : ℕ × ℕ) → pieces_after p [] ≡ spelled_piece p
unfolding pieces_from
all_spelled p = append-nil (spelled_piece p)

-- one id more of a piece
pub id_pushed : (first id : ℕ) (start ids more : List ℕ) → first ≤ id → ids ≡ start ++ range_with_len first (id - first) → more ≡ ids ++ id ∷ [] → more ≡ start ++ range_with_len first ((id + 1) - first)
id_pushed first id start ids more order so_far pushed =
    let one : (id + 1) - first ≡ suc (id - first) = omega arith in
    let two : first + (id - first) ≡ id = omega arith in
    pushed ∙ ap (λ (ks : List ℕ). ks ++ id ∷ []) so_far ∙ append_assoc start (range_with_len first (id - first)) (id ∷ [])
    ∙ ap (λ (ks : List ℕ). start ++ ks) (sym (ap (range_with_len first) one ∙ range_more first (id - first) ∙ ap (λ (k : ℕ). range_with_len first (id - first) ++ k ∷ []) two))

-- ---- how long they are

-- a piece of ids, of at most 1,024
record IsShort (p : ℕ × ℕ) : Type 0 where
  pub first : IsId p.0
  pub last : IsId p.1
  pub order : p.0 ≤ p.1
  pub short : p.1 < p.0 + 1024

short_from : (first last : ℕ) (ids : List ℕ) → IsShort (first, last) → All IsId ids → All IsShort (pieces_from first last ids)
unfolding pieces_from
short_from first last [] short valid = All-cons IsShort (first, last) [] short (All-nil IsShort)
short_from first last (id ∷ ids) short valid = by_test (belongs first last id) refl
    (λ next few. short_from first id ids (record { first = short.first; last = All-head IsId id ids valid; order = (let order : first ≤ last = short.order in omega arith); short = omega arith }) (All-tail IsId id ids valid))
    (short_from id id ids (record { first = All-head IsId id ids valid; last = All-head IsId id ids valid; order = omega arith; short = omega arith }) (All-tail IsId id ids valid))
  where
    by_test : (b : Bool) → belongs first last id ≡ b → (id ≡ last + 1 → last < first + 1023 → All IsShort (pieces_from first id ids)) → All IsShort (pieces_from id id ids) → All IsShort (cond b (pieces_from first id ids) ((first, last) ∷ pieces_from id id ids))
    by_test true test joined apart =
        let parts = and_parts _ _ test in
        joined (eqb-true id (last + 1) parts.0) (ltb-true last (first + 1023) parts.1)
    by_test false test joined apart = All-cons IsShort (first, last) (pieces_from id id ids) short apart

pieces_short : (ids : List ℕ) → All IsId ids → All IsShort (pieces ids)
unfolding pieces
pieces_short [] valid = All-nil IsShort
pieces_short (id ∷ ids) valid = short_from id id ids (record { first = All-head IsId id ids valid; last = All-head IsId id ids valid; order = omega arith; short = omega arith }) (All-tail IsId id ids valid)

one_alone : (id : ℕ) → IsId id → IsPiece (id, id)
one_alone id valid = record { first = valid; last = valid; long = inl refl }

long_or_one : (p : ℕ × ℕ) (b : Bool) → p.0 == p.1 ≡ b → p.1 == p.0 + 1 ≡ false → IsShort p → (p.0 ≡ p.1) ⊎ IsRun p
long_or_one p true same two short = inl (eqb-true p.0 p.1 same)
long_or_one p false same two short =
    let order : p.0 ≤ p.1 = short.order in
    let few : p.1 < p.0 + 1024 = short.short in
    let other : p.0 ≡ p.1 → ⊥ = λ e. by_eq (p.0 == p.1) (eq-eqb p.0 p.1 e) same in
    let no_two : p.1 ≡ p.0 + 1 → ⊥ = λ e. by_eq (p.1 == p.0 + 1) (eq-eqb p.1 (p.0 + 1) e) two in
    inr (omega arith, few)
  where
    by_eq : (v : Bool) → v ≡ true → v ≡ false → ⊥
    by_eq v passed failed = cc

spelled_valid_by : (p : ℕ × ℕ) (b : Bool) → p.1 == p.0 + 1 ≡ b → IsShort p → All IsPiece (cond b ((p.0, p.0) ∷ (p.1, p.1) ∷ []) (p ∷ []))
spelled_valid_by p true test short =
    All-cons IsPiece (p.0, p.0) ((p.1, p.1) ∷ []) (one_alone p.0 short.first) (All-cons IsPiece (p.1, p.1) [] (one_alone p.1 short.last) (All-nil IsPiece))
spelled_valid_by p false test short =
    All-cons IsPiece p [] (record { first = short.first; last = short.last; long = long_or_one p (p.0 == p.1) refl test short }) (All-nil IsPiece)

spelled_valid : (ps : List (ℕ × ℕ)) → All IsShort ps → All IsPiece (flat_map spelled_piece ps)
spelled_valid [] all = All-nil IsPiece
spelled_valid (p ∷ ps) all =
    All-append IsPiece (spelled_piece p) (flat_map spelled_piece ps) (spelled_valid_by p (p.1 == p.0 + 1) refl (All-head IsShort p ps all)) (spelled_valid ps (All-tail IsShort p ps all))

-- the pieces of ids can be spelled
pub pieces_valid : (ids : List ℕ) → All IsId ids → All IsPiece (spelled_pieces ids)
pieces_valid ids valid = spelled_valid (pieces ids) (pieces_short ids valid)

-- ---- their words

abbrev pub IsDotless : List ℕ → Type 0
IsDotless word = All (λ b. is_dot b ≡ false) word

digit_no_dot : (b : ℕ) → IsInRange 48 57 b → is_dot b ≡ false
digit_no_dot b digit = grind (arith, nat_tests)

dotless_digits : (ds : List ℕ) → AllDigits 10 ds → IsDotless ds
dotless_digits [] digits = All-nil (λ b. is_dot b ≡ false)
dotless_digits (d ∷ ds) digits = All-cons (λ b. is_dot b ≡ false) d ds (digit_no_dot d (digit_from_value d digits.0)) (dotless_digits ds digits.1)

dotless_number : (n : ℕ) → n < 10 ^ 64 → IsDotless (decimal n)
dotless_number n small = dotless_digits (decimal n) (decimal_digits n small)

dotless_by : (next id : ℕ) (made : Bool) → next ≤ 2 ^ 63 → IsId id → IsDotless (id_by next id made)
dotless_by next id true most valid = All-cons (λ b. is_dot b ≡ false) 45 (decimal (next - id)) refl (dotless_number (next - id) (omega arith))
dotless_by next id false most valid = dotless_number id (omega arith)

-- no id has a dot
pub id_dotless : (spelling : Spelling) → IsSpelling spelling → (id : ℕ) → IsId id → IsDotless (id_word spelling id)
id_dotless Plain fine id valid = dotless_number id (omega arith)
id_dotless (Relative rows next) fine id valid = dotless_by next id (is_made rows next id) fine valid

same_piece : (p q : ℕ × ℕ) → p.0 ≡ q.0 → p.1 ≡ q.1 → p ≡ q
same_piece p q first last =
    let made : ℕ → ℕ → ℕ × ℕ = λ a b. (a, b) in
    ap (λ a. made a p.1) first ∙ ap (λ b. made q.0 b) last

module _ (spelling : Spelling) (fine : IsSpelling spelling) where
  -- the word of a piece, by whether it is of one id
  abbrev pub piece_by : ℕ × ℕ → Bool → List ℕ
  piece_by p one = cond one (id_word spelling p.0) (id_word spelling p.0 ++ (46 ∷ 46 ∷ id_word spelling p.1))

  split_one : (id : ℕ) → IsId id → slice_split is_dot (id_word spelling id) ≡ id_word spelling id ∷ []
  split_one id valid = slice_split_none is_dot (id_word spelling id) (id_dotless spelling fine id valid)

  split_run : (a b : ℕ) → IsId a → IsId b → slice_split is_dot (id_word spelling a ++ (46 ∷ 46 ∷ id_word spelling b)) ≡ id_word spelling a ∷ [] ∷ id_word spelling b ∷ []
  split_run a b first last =
      slice_split_at is_dot (id_word spelling a) 46 (46 ∷ id_word spelling b) (id_dotless spelling fine a first) refl
      ∙ ap (λ ws. id_word spelling a ∷ ws) (slice_split_at is_dot [] 46 (id_word spelling b) (All-nil (λ b. is_dot b ≡ false)) refl ∙ ap (λ ws. [] ∷ ws) (split_one b last))

  one_by : (p q : ℕ × ℕ) (b c : Bool) → p.0 == p.1 ≡ b → q.0 == q.1 ≡ c → IsPiece p → IsPiece q → piece_by p b ≡ piece_by q c → p ≡ q
  one_by p q true true test other left right e =
      let first : p.0 ≡ q.0 = one_id spelling fine p.0 q.0 left.first right.first e in
      let one : p.0 ≡ p.1 = eqb-true p.0 p.1 test in
      let two : q.0 ≡ q.1 = eqb-true q.0 q.1 other in
      same_piece p q first (sym one ∙ first ∙ two)
  one_by p q true false test other left right e =
      let parts = sym (split_one p.0 left.first) ∙ ap (slice_split is_dot) e ∙ split_run q.0 q.1 right.first right.last in
      let none : [] ≡ [] ∷ id_word spelling q.1 ∷ [] = tail_same _ _ _ _ parts in
      cc
  one_by p q false true test other left right e =
      let parts = sym (split_one q.0 right.first) ∙ ap (slice_split is_dot) (sym e) ∙ split_run p.0 p.1 left.first left.last in
      let none : [] ≡ [] ∷ id_word spelling p.1 ∷ [] = tail_same _ _ _ _ parts in
      cc
  one_by p q false false test other left right e =
      let parts = sym (split_run p.0 p.1 left.first left.last) ∙ ap (slice_split is_dot) e ∙ split_run q.0 q.1 right.first right.last in
      let first : p.0 ≡ q.0 = one_id spelling fine p.0 q.0 left.first right.first (head_same _ _ _ _ parts) in
      let last : p.1 ≡ q.1 = one_id spelling fine p.1 q.1 left.last right.last (head_same _ _ _ _ (tail_same _ _ _ _ (tail_same _ _ _ _ parts))) in
      same_piece p q first last

  no_mark_by : (p : ℕ × ℕ) (b : Bool) → IsPiece p → piece_by p b ≡ 58 ∷ [] → ⊥
  no_mark_by p true valid e = no_id spelling p.0 valid.first (58 ∷ []) (λ low. omega arith) e
  no_mark_by p false valid e =
      let parts : (58 ∷ []) ∷ [] ≡ id_word spelling p.0 ∷ [] ∷ id_word spelling p.1 ∷ [] = ap (slice_split is_dot) (sym e) ∙ split_run p.0 p.1 valid.first valid.last in
      let none : [] ≡ [] ∷ id_word spelling p.1 ∷ [] = tail_same _ _ _ _ parts in
      cc

  pub piece_code : IsWordCode (piece_word spelling) IsPiece
  piece_code = record {
    one = λ p q left right e. one_by p q (p.0 == p.1) (q.0 == q.1) refl refl left right e;
    no_mark = λ p valid e. no_mark_by p (p.0 == p.1) valid e;
  }

  -- pieces of the same words hold the same ids
  pub one_of_pieces : (ids others : List ℕ) → All IsId ids → All IsId others → map (piece_word spelling) (spelled_pieces ids) ≡ map (piece_word spelling) (spelled_pieces others) → ids ≡ others
  one_of_pieces ids others left right e =
      let same : spelled_pieces ids ≡ spelled_pieces others = (one_part (piece_word spelling) IsPiece piece_code (spelled_pieces ids) (spelled_pieces others) [] [] (pieces_valid ids left) (pieces_valid others right) tt tt (ap (λ ws. ws ++ []) e)).0 in
      sym (held ids) ∙ ap (flat_map piece_ids) same ∙ held others

-- one list of ids has the words of those that are deleted
pub one_deleted : (spelling : Spelling) → IsSpelling spelling → (ids others : List ℕ) → All IsId ids → All IsId others → deleted_words spelling ids ≡ deleted_words spelling others → ids ≡ others
one_deleted Plain fine ids others left right e =
    (one_part (id_word Plain) IsId (id_code Plain tt) ids others [] [] left right tt tt (ap (λ ws. ws ++ []) e)).0
one_deleted (Relative rows next) fine ids others left right e = one_of_pieces (Relative rows next) fine ids others left right e
