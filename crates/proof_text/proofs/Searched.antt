-- Bytes that are taken off the front, and how far they were searched for a line feed.
use Rattle.std.proofs.Common.{◌≡◌, ℕ, ◌+◌, ◌-◌, ◌<◌, ◌≤◌, List, [], ◌∷◌, ◌++◌, length, take, drop, sym, ap, subst, ◌∙◌, arith}
use Rattle.std.proofs.lemmas.List.{append_assoc, length-append, length-take-le, length-drop, length_push, take-append-drop, take_at, drop_at, drop-drop, take_all, take_rest}
use Rattle.scut_base.specs.Bytes.{newline}
use Rattle.proof_text.specs.LogText.{IsOneLine}
use Rattle.proof_text.specs.Cutting.{IsLineOf, IsSearched}
use Rattle.proof_text.proofs.OneLines.{one_append}

-- what a slice from a place on shows
pub tail_is : (xs ys : List ℕ) (i : ℕ) → xs ≡ ys → take (length xs - i) (drop i xs) ≡ drop i ys
tail_is xs ys i e = take_rest xs i ∙ ap (drop i) e

drop_past : (text : List ℕ) (b : ℕ) (after : List ℕ) (n : ℕ) → length text ≡ n → drop (n + 1) (text ++ b ∷ after) ≡ after
drop_past text b after n len = ap (drop (n + 1)) (sym (append_assoc text (b ∷ []) after)) ∙ drop_at (text ++ b ∷ []) after (n + 1) (length_push text b ∙ ap (λ (m : ℕ). m + 1) len)

-- a cut before the first line feed
pub line_of : (bytes text after : List ℕ) (n : ℕ) → bytes ≡ text ++ newline ∷ after → length text ≡ n → IsOneLine text → IsLineOf bytes n
line_of bytes text after n is len one =
    let front : take n bytes ≡ text = ap (take n) is ∙ take_at text (newline ∷ after) n len in
    let back : drop (n + 1) bytes ≡ after = ap (drop (n + 1)) is ∙ drop_past text newline after n len in
    let longer : length bytes ≡ length text + length (newline ∷ after) = ap length is ∙ length-append text (newline ∷ after) in
    record {
      short = omega arith;
      line = record {
        one = subst (λ (t : List ℕ). IsOneLine t) (sym front) one;
        is = is ∙ ap (λ (t : List ℕ). t ++ newline ∷ after) (sym front) ∙ ap (λ (u : List ℕ). take n bytes ++ newline ∷ u) (sym back);
      };
    }

module _ (bytes : List ℕ) (at n : ℕ) (searched : IsSearched bytes at n) where
  abbrev pending : List ℕ
  pending = drop at bytes

  behind : drop n pending ≡ drop (at + n) bytes
  behind = drop-drop n at bytes

  room : n ≤ length pending
  room = let bound = searched.within in omega (arith, length-drop at bytes)

  parts : pending ≡ take n pending ++ drop (at + n) bytes
  parts = sym (take-append-drop n pending) ∙ ap (λ (t : List ℕ). take n pending ++ t) behind

  -- a line feed that was found behind what was searched is the first
  pub found_line : (more : ℕ) → IsLineOf (drop (at + n) bytes) more → IsLineOf pending (n + more)
  found_line more found =
      let rest : List ℕ = drop (at + n) bytes in
      let text : List ℕ = take more rest in
      let after : List ℕ = drop (more + 1) rest in
      let short : more < length rest = found.short in
      let is : pending ≡ (take n pending ++ text) ++ newline ∷ after = parts ∙ ap (λ (t : List ℕ). take n pending ++ t) found.line.is ∙ sym (append_assoc (take n pending) text (newline ∷ after)) in
      let len : length (take n pending ++ text) ≡ n + more = omega (arith, length-append (take n pending) text, length-take-le n pending room, length-take-le more rest (omega arith)) in
      line_of pending (take n pending ++ text) after (n + more) is len (one_append (take n pending) text searched.one found.line.one)

  pub found_searched : (more : ℕ) → IsLineOf (drop (at + n) bytes) more → IsSearched bytes at (n + more)
  found_searched more found =
      let short : more < length (drop (at + n) bytes) = found.short in
      let bound = searched.within in
      record { within = omega (arith, length-drop (at + n) bytes); one = (found_line more found).line.one }

  -- where there is none behind it, there is none
  pub found_none : IsOneLine (drop (at + n) bytes) → IsOneLine pending
  found_none one = subst (λ (t : List ℕ). IsOneLine t) (sym parts) (one_append (take n pending) (drop (at + n) bytes) searched.one one)

  pub all_searched : IsOneLine (drop (at + n) bytes) → IsSearched bytes at (length bytes - at)
  all_searched one =
      let bound = searched.within in
      record {
        within = omega arith;
        one = subst (λ (t : List ℕ). IsOneLine t) (sym (take_all (length bytes - at) pending (omega (arith, length-drop at bytes)))) (found_none one);
      }
