-- Sizes of what is derived, and that what is protected is opened.
use mathlib.Core.Path.{◌≡◌, refl, sym, ap, ap₂, ◌∙◌}
use mathlib.Core.Bool.{Bool, true}
use mathlib.Core.List.{List, ◌∷◌, ◌++◌}
use Prim.Native.Nat.{ℕ, suc, ◌*◌, ◌/◌, ◌<◌}
use native.Mathlib.Omega.{arith}
use lib.ListN.{length, get_or}
use Rattle.shake.proofs.Output.{length-shake256}
use Rattle.lists.proofs.ByteLists.{Small}
use Rattle.gf128.specs.Bytes.{Block, block, sum, product, tag, equal}
use Rattle.gf128.specs.Powers.{power, weighted}
use Rattle.gf128.proofs.FieldLaws.{part-block, zeros-block, sum-block, length-sum, sum_twice}
use Rattle.gf128.proofs.TagLaws.{folded-block, tag_one, tag-first-weighted}
use Rattle.gf128.proofs.Comparison.{equal_iff}
use Rattle.triples.specs.Triple.{triple_bytes}
use Rattle.derivation.specs.Derivation.{key_material, key0, key1, key2, keystream, under_keystream, body_of, tag_of, is_genuine, entry_of}
use Rattle.derivation.proofs.HashedBytes.{shake256_byte}

-- ---- the keystream

pub length-keystream : (k0 : List ℕ) (size : ℕ) → length (keystream k0 size) ≡ size
unfolding keystream
length-keystream k0 size = length-shake256 (0x02 ∷ k0) size

pub keystream_byte : (k0 : List ℕ) (size k : ℕ) → get_or (keystream k0 size) k 0 < 256
unfolding keystream
keystream_byte k0 size k = shake256_byte (0x02 ∷ k0) size k

pub length_under : (k0 text : List ℕ) → length (under_keystream k0 text) ≡ length text
unfolding under_keystream
length_under k0 text = length-sum (length text) text (keystream k0 (length text)) refl (length-keystream k0 (length text))

pub under-block : (k0 : List ℕ) {text : List ℕ} → Block text → Block (under_keystream k0 text)
unfolding under_keystream
under-block k0 {text} h =
    sum-block h (record { size = length-keystream k0 (length text) ∙ h.size; small = keystream_byte k0 (length text) })

-- what is put under the keystream comes back from under it
pub under_twice : (k0 text : List ℕ) → under_keystream k0 (under_keystream k0 text) ≡ text
unfolding under_keystream
under_twice k0 text =
    ap (λ (n : ℕ). sum (under_keystream k0 text) (keystream k0 n)) (length_under k0 text)
    ∙ sum_twice text (keystream k0 (length text)) (sym (length-keystream k0 (length text)))

module _ (r e1 e2 : List ℕ) where
  -- ---- keys

  pub length-key_material : length (key_material r e1 e2) ≡ 48
  unfolding key_material
  length-key_material = length-shake256 (0x01 ∷ triple_bytes r e1 e2) 48

  pub key_material_byte : (k : ℕ) → get_or (key_material r e1 e2) k 0 < 256
  unfolding key_material
  key_material_byte k = shake256_byte (0x01 ∷ triple_bytes r e1 e2) 48 k

  key-block : (i : ℕ) → i < 3 → Block (block i (key_material r e1 e2))
  key-block i h = part-block (16 * i) (key_material r e1 e2) (omega (arith, length-key_material)) key_material_byte

  pub key0-block : Block (key0 r e1 e2)
  unfolding key0
  key0-block = key-block 0 (omega arith)

  pub key1-block : Block (key1 r e1 e2)
  unfolding key1
  key1-block = key-block 1 (omega arith)

  pub key2-block : Block (key2 r e1 e2)
  unfolding key2
  key2-block = key-block 2 (omega arith)

  -- ---- body and tag

  pub body_of-block : {entry : List ℕ} → Block entry → Block (body_of r e1 e2 entry)
  unfolding body_of
  body_of-block h = under-block (key0 r e1 e2) h

  pub length-body_of : (entry : List ℕ) → length (body_of r e1 e2 entry) ≡ length entry
  unfolding body_of
  length-body_of entry = length_under (key0 r e1 e2) entry

  pub length-entry_of : (body : List ℕ) → length (entry_of r e1 e2 body) ≡ length body
  unfolding entry_of
  length-entry_of body = length_under (key0 r e1 e2) body

  pub tag_of-block : (blocks : List ℕ) → Block (tag_of r e1 e2 blocks)
  unfolding tag_of tag
  tag_of-block blocks = sum-block (folded-block (key1 r e1 e2) (length blocks / 16) blocks zeros-block) key2-block

  -- document 01's tag
  pub tag_of-one : (body : List ℕ) → length body ≡ 16 → tag_of r e1 e2 body ≡ sum (product (key1 r e1 e2) body) (key2 r e1 e2)
  unfolding tag_of
  tag_of-one body size = tag_one (key1 r e1 e2) body (key2 r e1 e2) size

  -- of a block b and m blocks behind it: K1^(m + 1) × b + K1^m × B1 + .. + K1 × Bm + K2
  pub tag_of-first : {b : List ℕ} (s : List ℕ) → Block b → Small s
      → tag_of r e1 e2 (b ++ s)
      ≡ sum (sum (product (power (key1 r e1 e2) (suc (length s / 16))) b) (weighted (key1 r e1 e2) (length s / 16) s)) (key2 r e1 e2)
  unfolding tag_of
  tag_of-first s hb small = tag-first-weighted s (key2 r e1 e2) key1-block hb small

  -- ---- from the keys, as the code works them out

  pub body_by : (entry : List ℕ) {k0 body : List ℕ} → k0 ≡ key0 r e1 e2 → body ≡ under_keystream k0 entry → body ≡ body_of r e1 e2 entry
  unfolding body_of
  body_by entry k b = b ∙ ap (λ (key : List ℕ). under_keystream key entry) k

  -- the keystream is added and taken off in one way
  pub entry_by : (body : List ℕ) {k0 entry : List ℕ} → k0 ≡ key0 r e1 e2 → entry ≡ under_keystream k0 body → entry ≡ entry_of r e1 e2 body
  unfolding body_of entry_of
  entry_by body k e = body_by body k e

  pub tag_by : (blocks : List ℕ) {k1 k2 t : List ℕ} → k1 ≡ key1 r e1 e2 → k2 ≡ key2 r e1 e2 → t ≡ tag k1 blocks k2 → t ≡ tag_of r e1 e2 blocks
  unfolding tag_of
  tag_by blocks p q e = e ∙ ap₂ (λ (k k' : List ℕ). tag k blocks k') p q

  pub genuine_by : (blocks t : List ℕ) {k1 k2 expected : List ℕ} {g : Bool} → k1 ≡ key1 r e1 e2 → k2 ≡ key2 r e1 e2
      → expected ≡ tag k1 blocks k2 → g ≡ equal t expected → g ≡ is_genuine r e1 e2 blocks t
  unfolding is_genuine
  genuine_by blocks t p q e g = g ∙ ap (equal t) (tag_by blocks p q e)

  -- ---- opening

  -- the tag is right exactly where it is the tag of the blocks
  pub genuine_iff : (blocks t : List ℕ) → (is_genuine r e1 e2 blocks t ≡ true → t ≡ tag_of r e1 e2 blocks) × (t ≡ tag_of r e1 e2 blocks → is_genuine r e1 e2 blocks t ≡ true)
  unfolding is_genuine
  genuine_iff blocks t = equal_iff t (tag_of r e1 e2 blocks)

  pub entry_of-body_of : (entry : List ℕ) → entry_of r e1 e2 (body_of r e1 e2 entry) ≡ entry
  unfolding entry_of body_of
  entry_of-body_of entry = under_twice (key0 r e1 e2) entry
