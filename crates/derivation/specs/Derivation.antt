-- What is derived from a triple of ternary polynomials r, e1, e2, and how an entry is protected by it: document 01's entry of 16 bytes, or the
-- entries of a batch, 16 bytes each, one behind the other (document 02, No. 4).
use Rattle.std.specs.Prelude.{Bool, List, ◌∷◌, ℕ, length}
use Rattle.shake.specs.Shake.{shake256}
use Rattle.gf128.specs.Bytes.{block, sum, tag, equal}
use Rattle.triples.specs.Triple.{triple_bytes}

-- K: the first 48 bytes of SHAKE256 over byte 0x01 and the triple
unfoldable pub key_material : (r e1 e2 : List ℕ) → List ℕ
key_material r e1 e2 = shake256 (0x01 ∷ triple_bytes r e1 e2) 48

-- K0, K1 and K2: the 16-byte parts of K
unfoldable pub key0 : (r e1 e2 : List ℕ) → List ℕ
key0 r e1 e2 = block 0 (key_material r e1 e2)

unfoldable pub key1 : (r e1 e2 : List ℕ) → List ℕ
key1 r e1 e2 = block 1 (key_material r e1 e2)

unfoldable pub key2 : (r e1 e2 : List ℕ) → List ℕ
key2 r e1 e2 = block 2 (key_material r e1 e2)

-- document 01's pad, as long as what it covers: the first bytes of SHAKE256 over byte 0x02 and K0
unfoldable pub keystream : (k0 : List ℕ) (size : ℕ) → List ℕ
keystream k0 size = shake256 (0x02 ∷ k0) size

-- a text xor the keystream: the body of an entry, and the entry of a body
unfoldable pub under_keystream : (k0 text : List ℕ) → List ℕ
under_keystream k0 text = sum text (keystream k0 (length text))

-- ---- protecting an entry

-- entry xor keystream
unfoldable pub body_of : (r e1 e2 entry : List ℕ) → List ℕ
body_of r e1 e2 entry = under_keystream (key0 r e1 e2) entry

-- the tag of the blocks of a string: K1 × body + K2 where it is the body of document 01's entry; a batch has a block in front of its body
unfoldable pub tag_of : (r e1 e2 blocks : List ℕ) → List ℕ
tag_of r e1 e2 blocks = tag (key1 r e1 e2) blocks (key2 r e1 e2)

-- ---- opening it

-- t is the tag of the blocks
unfoldable pub is_genuine : (r e1 e2 blocks t : List ℕ) → Bool
is_genuine r e1 e2 blocks t = equal t (tag_of r e1 e2 blocks)

-- body xor keystream
unfoldable pub entry_of : (r e1 e2 body : List ℕ) → List ℕ
entry_of r e1 e2 body = under_keystream (key0 r e1 e2) body
