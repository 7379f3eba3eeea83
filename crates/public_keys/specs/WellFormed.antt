-- When a public key of either kind is well formed and holds an a, and which of its words is named where one is q or more.
use Rattle.std.specs.Prelude.{◌≡◌, true, ◌⊎◌, List, ℕ, length}
use Rattle.ring.specs.Ring.{n, Element}
use Rattle.encoding.specs.Header.{has_mark, version_of}
use Rattle.sampling.specs.Stream.{taken}
use Rattle.seeds.specs.Seeds.{seed_stream}
use Rattle.answers.specs.declared.Location.{Location}
use Rattle.answers.specs.Locations.{public_key, seeded_public_key, a_part, b_part}
use Rattle.records.specs.Layout.{public_key_mark, seeded_key_mark, public_key_length, seeded_key_length}
use Rattle.records.specs.Records.{first_of, second_of, seed_of, seeded_b}
use Rattle.records.specs.Named.{Named, NamedInTwo}
use Rattle.public_keys.specs.PublicKeys.{public_a, public_b}

-- length, mark and version 1 of a record
abbrev pub HasHeader : (size : ℕ) (mark k : List ℕ) → Type 0
HasHeader size mark k = (length k ≡ size) × (has_mark mark k ≡ true) × (version_of k ≡ 1)

-- the stream of a seeded key has 1,024 words below q
abbrev pub SeedFills : List ℕ → Type 0
SeedFills k = length (taken (seed_stream (seed_of k))) ≡ n

-- the header of either record, and behind it what a is read from
abbrev pub PublicHeader : List ℕ → Type 0
PublicHeader k = HasHeader public_key_length public_key_mark k ⊎ (HasHeader seeded_key_length seeded_key_mark k × SeedFills k)

-- and every word of a and b is below q
pub record PublicRecord (k : List ℕ) : Type 0 where
  pub header : PublicHeader k
  pub a-words : Element (public_a k)
  pub b-words : Element (public_b k)

-- l names the first word that is q or more, behind length, mark and version
abbrev pub PublicNamed : (k : List ℕ) (l : Location) → Type 0
PublicNamed k l =
    (HasHeader public_key_length public_key_mark k × NamedInTwo public_key a_part b_part (first_of k) (second_of k) l)
    ⊎ (HasHeader seeded_key_length seeded_key_mark k × Named seeded_public_key b_part (seeded_b k) l)
