-- The reader of runs of ids.
use Rattle.std.proofs.Common.{◌≡◌, ◌≢◌, ◌⊎◌, ⊎_elim, ℕ, zero, suc, ◌+◌, ◌-◌, ◌^◌, ◌<◌, ◌≤◌, ◌==◌, not, length-drop, Bool, true, false, cond, List, [], ◌∷◌, ◌++◌, map, length, take, drop, Option, Some, None, Err, refl, sym, ap, subst, ◌∙◌, arith}
use Rattle.std.specs.List.{All, AllPairs, flat_map, position_or_len, range_with_len}
use Rattle.std.proofs.lemmas.Bool.{eq-eqb, eqb-true}
use Rattle.std.proofs.lemmas.List.{append-nil, append_cancel_left, take_rest}
use Rattle.std.proofs.lemmas.List.Elements.{All-append, All-cons, All-head, All-nil, All-tail}
use Rattle.proof_laws.specs.WellFormed.{AreRisingIds, IsId}
use Rattle.proof_lines.specs.declared.reader.LineFault.{LineFault}
use Rattle.proof_lines.specs.declared.reader.LineFault.TheVariants.{Syntax, NoMemory}
use Rattle.proof_lines.specs.declared.spelling.Spelling.{Spelling}
use Rattle.proof_lines.specs.Ids.{IsSpelling, id_word, piece_ids, piece_word, spelled_pieces}
use Rattle.proof_lines.specs.Kinds.{ReadsRuns}
use Rattle.proof_lines.specs.Pieces.{IsPiece, IsRun, IsRunOf, is_dot}
use Rattle.proof_lines.specs.Reading.{EndsPart, IsValueOf, ReadsPart}
use Rattle.proof_lines.proofs.Items.{Words}
use Rattle.proof_lines.proofs.IdWords.{one_id}
use Rattle.proof_lines.proofs.Pieces.{IsDotless, held, id_dotless, piece_code, pieces_valid}
use Rattle.proof_lines.proofs.WordParts.{only_part}

-- ---- the first dot

no_dot : (a : List ℕ) → IsDotless a → position_or_len is_dot a ≡ length a
no_dot [] plain = refl
no_dot (b ∷ a) plain =
    let first : is_dot b ≡ false = All-head (λ c. is_dot c ≡ false) b a plain in
    let rest : position_or_len is_dot a ≡ length a = no_dot a (All-tail (λ c. is_dot c ≡ false) b a plain) in
    ap (λ v. cond (not v) (1 + position_or_len is_dot a) 0) first ∙ omega (arith, rest)

dot_after : (a b : List ℕ) → IsDotless a → position_or_len is_dot (a ++ (46 ∷ b)) ≡ length a
dot_after [] b plain = refl
dot_after (x ∷ a) b plain =
    let first : is_dot x ≡ false = All-head (λ c. is_dot c ≡ false) x a plain in
    let rest : position_or_len is_dot (a ++ (46 ∷ b)) ≡ length a = dot_after a b (All-tail (λ c. is_dot c ≡ false) x a plain) in
    ap (λ v. cond (not v) (1 + position_or_len is_dot (a ++ (46 ∷ b))) 0) first ∙ omega (arith, rest)

halves : (n : ℕ) (xs : List ℕ) → xs ≡ take n xs ++ drop n xs
halves zero xs = refl
halves (suc n) [] = refl
halves (suc n) (x ∷ xs) = ap (λ ys. x ∷ ys) (halves n xs)

front : (a b : List ℕ) → take (length a) (a ++ b) ≡ a
front [] b = refl
front (x ∷ a) b = ap (λ xs. x ∷ xs) (front a b)

back : (a b : List ℕ) → drop (length a) (a ++ b) ≡ b
back [] b = refl
back (x ∷ a) b = back a b

-- ---- the ids of pieces

range_valid : (a n : ℕ) → a + n ≤ 2 ^ 63 → All IsId (range_with_len a n)
range_valid a zero small = All-nil IsId
range_valid a (suc n) small = All-cons IsId a (range_with_len (a + 1) n) (omega arith) (range_valid (a + 1) n (omega arith))

piece_valid : (p : ℕ × ℕ) → IsPiece p → All IsId (piece_ids p)
piece_valid p valid =
    let first : p.0 < 2 ^ 63 = valid.first in
    let last : p.1 < 2 ^ 63 = valid.last in
    range_valid p.0 ((p.1 + 1) - p.0) (omega arith)

pub ids_valid : (ps : List (ℕ × ℕ)) → All IsPiece ps → All IsId (flat_map piece_ids ps)
ids_valid [] valid = All-nil IsId
ids_valid (p ∷ ps) valid = All-append IsId (piece_ids p) (flat_map piece_ids ps) (piece_valid p (All-head IsPiece p ps valid)) (ids_valid ps (All-tail IsPiece p ps valid))

module _ (spelling : Spelling) (fine : IsSpelling spelling) where
  -- ids that make no run
  pub not_run : (head tail digits : List ℕ) (first last : ℕ) → digits ≡ take (length tail - 2) (drop 2 tail) → IsId first × (head ≡ id_word spelling first) → IsId last × (digits ≡ id_word spelling last) → (IsRun (first, last) → ⊥) → IsRunOf spelling head tail None
  not_run head tail digits first last part read_first read_last none = λ p valid run h t.
      let one : first ≡ p.0 = one_id spelling fine first p.0 read_first.0 valid.first (sym read_first.1 ∙ h) in
      let two : last ≡ p.1 = one_id spelling fine last p.1 read_last.0 valid.last (sym read_last.1 ∙ part ∙ take_rest tail 2 ∙ ap (drop 2) t) in
      none (omega (arith, run.0), omega (arith, run.1))

  -- a word with a dot, and one without
  dotted : (word : List ℕ) (n : ℕ) (x : ℕ × ℕ) (one : Bool) → x.0 == x.1 ≡ one → IsPiece x → n ≡ position_or_len is_dot word → n < length word → word ≡ cond one (id_word spelling x.0) (id_word spelling x.0 ++ (46 ∷ 46 ∷ id_word spelling x.1)) → (x.0 == x.1 ≡ false) × (take n word ≡ id_word spelling x.0) × (drop n word ≡ 46 ∷ 46 ∷ id_word spelling x.1)
  dotted word n x true test valid place within spelled =
      let none : position_or_len is_dot (id_word spelling x.0) ≡ length (id_word spelling x.0) = no_dot (id_word spelling x.0) (id_dotless spelling fine x.0 valid.first) in
      let here : n ≡ length word = place ∙ ap (position_or_len is_dot) spelled ∙ none ∙ ap length (sym spelled) in
      absurd (omega arith)
  dotted word n x false test valid place within spelled =
      let here : n ≡ length (id_word spelling x.0) = place ∙ ap (position_or_len is_dot) spelled ∙ dot_after (id_word spelling x.0) (46 ∷ id_word spelling x.1) (id_dotless spelling fine x.0 valid.first) in
      (test, ap (λ k. take k word) here ∙ ap (take (length (id_word spelling x.0))) spelled ∙ front (id_word spelling x.0) _, ap (λ k. drop k word) here ∙ ap (drop (length (id_word spelling x.0))) spelled ∙ back (id_word spelling x.0) _)

  apart : (v : Bool) → v ≡ true → v ≡ false → ⊥
  apart v passed failed = cc

  is_run : (x : ℕ × ℕ) → IsPiece x → x.0 == x.1 ≡ false → IsRun x
  is_run x valid other = ⊎_elim (λ (same : x.0 ≡ x.1). absurd (apart (x.0 == x.1) (eq-eqb x.0 x.1 same) other)) (λ (run : IsRun x). run) valid.long

  run_word : (p : ℕ × ℕ) (one : Bool) → p.0 == p.1 ≡ one → IsRun p → cond one (id_word spelling p.0) (id_word spelling p.0 ++ (46 ∷ 46 ∷ id_word spelling p.1)) ≡ id_word spelling p.0 ++ (46 ∷ 46 ∷ id_word spelling p.1)
  run_word p true test run = let same : p.0 ≡ p.1 = eqb-true p.0 p.1 test in absurd (omega (arith, run.0))
  run_word p false test run = refl

  pub run_value : (word : List ℕ) (n : ℕ) (r : Option (ℕ × ℕ)) → n ≡ position_or_len is_dot word → n < length word → IsRunOf spelling (take n word) (take (length word - n) (drop n word)) r → IsValueOf (piece_word spelling) IsPiece word r
  run_value word n None place within none = λ x valid spelled.
      let parts = dotted word n x (x.0 == x.1) refl valid place within spelled in
      none x valid (is_run x valid parts.0) parts.1 (take_rest word n ∙ parts.2)
  run_value word n (Some p) place within run =
      (run.0, halves n word ∙ ap (λ w. w ++ drop n word) run.2 ∙ ap (λ w. id_word spelling p.0 ++ w) (sym (take_rest word n) ∙ run.3) ∙ sym (run_word p (p.0 == p.1) refl run.1))

  undotted : (word : List ℕ) (n : ℕ) (x : ℕ × ℕ) (one : Bool) → x.0 == x.1 ≡ one → IsPiece x → n ≡ position_or_len is_dot word → length word ≤ n → ((id : ℕ) → IsId id → word ≡ id_word spelling id → ⊥) → word ≡ cond one (id_word spelling x.0) (id_word spelling x.0 ++ (46 ∷ 46 ∷ id_word spelling x.1)) → ⊥
  undotted word n x true test valid place past none spelled = none x.0 valid.first spelled
  undotted word n x false test valid place past none spelled =
      let here : n ≡ length (id_word spelling x.0) = place ∙ ap (position_or_len is_dot) spelled ∙ dot_after (id_word spelling x.0) (46 ∷ id_word spelling x.1) (id_dotless spelling fine x.0 valid.first) in
      let rest : drop n word ≡ 46 ∷ 46 ∷ id_word spelling x.1 = ap (λ k. drop k word) here ∙ ap (drop (length (id_word spelling x.0))) spelled ∙ back (id_word spelling x.0) _ in
      let long : length (drop n word) ≡ length (46 ∷ 46 ∷ id_word spelling x.1) = ap length rest in
      let left : length (drop n word) ≡ length word - n = length-drop n word in
      omega arith

  -- a word that is no id and has no dot
  pub no_piece : (word : List ℕ) (n : ℕ) → n ≡ position_or_len is_dot word → length word ≤ n → ((id : ℕ) → IsId id → word ≡ id_word spelling id → ⊥) → IsValueOf (piece_word spelling) IsPiece word None
  no_piece word n place past none = λ x valid spelled. undotted word n x (x.0 == x.1) refl valid place past none spelled

  -- ---- the pieces of a line

  pub pieces_wrong : (f : LineFault) (old new : Words) → ReadsPart (map (piece_word spelling)) (All IsPiece) old new (Err f) → ReadsRuns spelling old (Err f)
  pieces_wrong Syntax old new none = λ ids valid e. none (spelled_pieces ids) [] (pieces_valid ids valid.1) tt (e ∙ sym (append-nil (map (piece_word spelling) (spelled_pieces ids))))
  pieces_wrong NoMemory old new none = tt

  -- the pieces that were read are those of any list of ids that is there
  only_pieces : (old new : Words) (ps : List (ℕ × ℕ)) → All IsPiece ps × (old ≡ map (piece_word spelling) ps ++ new) × EndsPart new → (ids : List ℕ) → AreRisingIds ids → old ≡ map (piece_word spelling) (spelled_pieces ids) → spelled_pieces ids ≡ ps
  only_pieces old new ps read ids valid e = only_part (piece_word spelling) IsPiece (piece_code spelling fine) old new ps read (spelled_pieces ids) [] (pieces_valid ids valid.1) tt (e ∙ sym (append-nil (map (piece_word spelling) (spelled_pieces ids))))

  pub pieces_unended : (old new : Words) (ps : List (ℕ × ℕ)) → All IsPiece ps × (old ≡ map (piece_word spelling) ps ++ new) × EndsPart new → (new ≡ [] → ⊥) → ReadsRuns spelling old (Err Syntax)
  pieces_unended old new ps read unended = λ ids valid e.
      let same : spelled_pieces ids ≡ ps = only_pieces old new ps read ids valid e in
      unended (append_cancel_left (map (piece_word spelling) ps) new [] (sym read.1 ∙ e ∙ ap (map (piece_word spelling)) same ∙ sym (append-nil (map (piece_word spelling) ps))))

  -- the ids of a line that could be read are these
  only_ids : (old new : Words) (ps : List (ℕ × ℕ)) (ids : List ℕ) → All IsPiece ps × (old ≡ map (piece_word spelling) ps ++ new) × EndsPart new → ids ≡ flat_map piece_ids ps → (others : List ℕ) → AreRisingIds others → old ≡ map (piece_word spelling) (spelled_pieces others) → others ≡ ids
  only_ids old new ps ids read are others valid e = sym (held others) ∙ ap (flat_map piece_ids) (only_pieces old new ps read others valid e) ∙ sym are

  pub runs_undeleted : (old new : Words) (ps : List (ℕ × ℕ)) (ids seen : List ℕ) → All IsPiece ps × (old ≡ map (piece_word spelling) ps ++ new) × EndsPart new → ids ≡ flat_map piece_ids ps → ids ≡ seen → ((seen ≢ []) × AllPairs (λ i j. i < j) seen → ⊥) → ReadsRuns spelling old (Err Syntax)
  runs_undeleted old new ps ids seen read are same none = λ others valid e.
      none (subst (λ (xs : List ℕ). (xs ≢ []) × AllPairs (λ i j. i < j) xs) (only_ids old new ps ids read are others valid e ∙ same) (valid.0, valid.2))

  pub runs_uncut : (old new : Words) (ps : List (ℕ × ℕ)) (ids : List ℕ) → All IsPiece ps × (old ≡ map (piece_word spelling) ps ++ new) × EndsPart new → ids ≡ flat_map piece_ids ps → (spelled_pieces ids ≡ ps → ⊥) → ReadsRuns spelling old (Err Syntax)
  runs_uncut old new ps ids read are none = λ others valid e.
      none (ap spelled_pieces (sym (only_ids old new ps ids read are others valid e)) ∙ only_pieces old new ps read others valid e)

  pub runs_read : (old new : Words) (ps : List (ℕ × ℕ)) (ids seen : List ℕ) → All IsPiece ps × (old ≡ map (piece_word spelling) ps ++ new) × EndsPart new → new ≡ [] → ids ≡ flat_map piece_ids ps → ids ≡ seen → (seen ≢ []) × AllPairs (λ i j. i < j) seen → spelled_pieces ids ≡ ps → AreRisingIds ids × (old ≡ map (piece_word spelling) (spelled_pieces ids))
  runs_read old new ps ids seen read end are same rise cut =
      let valid : All IsId ids = subst (All IsId) (sym are) (ids_valid ps read.0) in
      let own = subst (λ (xs : List ℕ). (xs ≢ []) × AllPairs (λ i j. i < j) xs) (sym same) rise in
      ((own.0, valid, own.1), read.1 ∙ ap (λ ws. map (piece_word spelling) ps ++ ws) end ∙ append-nil (map (piece_word spelling) ps) ∙ ap (map (piece_word spelling)) (sym cut))
