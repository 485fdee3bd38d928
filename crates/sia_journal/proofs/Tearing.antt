-- What writes and cuts leave of a file, whole or cut short by a crash.
use Rattle.std.proofs.Common.{◌≡◌, ℕ, ◌+◌, ◌≤◌, min, List, [], ◌∷◌, ◌++◌, length, take, drop, get_or, sym, ap, ◌∙◌, append_assoc, length-append, arith}
use Rattle.std.proofs.lemmas.List.{append-nil, take_at, drop_at, take_all, drop_all, drop_more, length-drop, take-append-drop}
use Rattle.sia_edge.specs.Disk.{Torn, Shortened, overwritten}

-- a write at the end
module _ (front : List ℕ) (place : ℕ) (size : length front ≡ place) where
  pub torn_at_end : (n : ℕ) (file : List ℕ) → Torn place n front file → file ≡ front ++ drop place file
  torn_at_end n file torn =
      let within : min place (length front) ≡ place = omega (arith, size) in
      sym (take-append-drop place file)
      ∙ ap (λ l. l ++ drop place file) (ap (λ k. take k file) (sym within) ∙ torn.before ∙ take_all place front (omega (arith, size)))

  pub written_at_end : (bytes : List ℕ) → overwritten front place bytes ≡ front ++ bytes
  written_at_end bytes =
      ap (λ l. l ++ bytes ++ drop (place + length bytes) front) (take_all place front (omega (arith, size)))
      ∙ ap (λ l. front ++ bytes ++ l) (drop_all (place + length bytes) front (omega (arith, size)))
      ∙ append-nil (front ++ bytes)

  -- a write of one byte within
  module _ (gate : ℕ) (behind : List ℕ) where
    past_gate : drop (place + 1) (front ++ gate ∷ behind) ≡ behind
    past_gate =
        ap (drop (place + 1)) (sym (append_assoc front (gate ∷ []) behind))
        ∙ drop_at (front ++ gate ∷ []) behind (place + 1) (omega (arith, size, length-append front (gate ∷ [])))

    pub torn_within : (file : List ℕ) → Torn place 1 (front ++ gate ∷ behind) file → file ≡ front ++ get_or file place 0 ∷ behind
    torn_within file torn =
        let sizes = length-append front (gate ∷ behind) in
        let within : min place (length (front ++ gate ∷ behind)) ≡ place = omega (arith, size, sizes) in
        let first : take place file ≡ front = ap (λ k. take k file) (sym within) ∙ torn.before ∙ take_at front (gate ∷ behind) place size in
        let rest : drop place file ≡ get_or file place 0 ∷ behind =
        drop_more file place 0 (omega (arith, size, sizes, torn.no_shorter)) ∙ ap (λ l. get_or file place 0 ∷ l) (torn.after ∙ past_gate) in
        sym (take-append-drop place file) ∙ ap (λ l. l ++ drop place file) first ∙ ap (λ l. front ++ l) rest

    pub written_within : (byte : ℕ) → overwritten (front ++ gate ∷ behind) place (byte ∷ []) ≡ front ++ byte ∷ behind
    written_within byte =
        ap (λ l. l ++ byte ∷ [] ++ drop (place + 1) (front ++ gate ∷ behind)) (take_at front (gate ∷ behind) place size)
        ∙ ap (λ l. front ++ byte ∷ [] ++ l) past_gate
        ∙ append_assoc front (byte ∷ []) behind

  -- a cut
  pub shortened_behind : (behind file : List ℕ) → Shortened place (front ++ behind) file
      → (length (drop place file) ≤ length behind) × (file ≡ front ++ drop place file)
  shortened_behind behind file short =
      let sizes = length-append front behind in
      let within : min place (length (front ++ behind)) ≡ place = omega (arith, size, sizes) in
      let first : take place file ≡ front = ap (λ k. take k file) (sym within) ∙ short.front ∙ take_at front behind place size in
      (omega (arith, size, sizes, short.no_longer, length-drop place file), sym (take-append-drop place file) ∙ ap (λ l. l ++ drop place file) first)
