-- The checks of a secret key of either version: when they say Done, 1, 6 and 13, which word 4 names, and what they never say.
use mathlib.Core.Path.{◌≡◌, refl, ap, ◌∙◌}
use mathlib.Core.Bool.{Bool, true, false}
use mathlib.Core.Logic.Iff
use mathlib.Core.Logic.{◌↔◌, inl, inr}
use mathlib.Core.List.{List}
use Prim.Native.Nat.{ℕ, ◌<◌}
use native.Mathlib.Omega.{arith}
use Rattle.ring.specs.Ring.{Element, Invertible}
use Rattle.answers.specs.declared.Location.{Location}
use Rattle.answers.specs.Answers.{number, and_then, Done}
use Rattle.answers.specs.Locations.{Names}
use Rattle.records.specs.Records.{second_of, codes_part, codes_answer}
use Rattle.records.specs.WellFormed.{WellFormedKey, WellFormedExpandedKey}
use Rattle.answers.proofs.AnswerLaws.{Never, then-done, then_never, then-says, then-refuses, then_names, names-first}
use Rattle.records.proofs.RecordLaws.{codes-done, codes_never}
use Rattle.secret_keys.specs.SecretKeys.{is_expanded, layout_answer, secret_words_answer, unit_answer, match_answer, content_answer, secret_answer}
use Rattle.secret_keys.specs.WellFormed.{WellFormedAs, InverseStored, UnitAs, Matches, LengthMisfits, SecretNamed}
use Rattle.secret_keys.proofs.Checks.{is_version, layout-done, layout-misfit, layout_never, secret-words-done, secret-words_never, secret-words_named, NamedAs}
use Rattle.secret_keys.proofs.Checks.{unit-done, unit_number, unit_refused, unit_never, match-done, match_never}

module _ (k : List ℕ) where
  -- ---- well formed: layout, words and codes pass

  -- what these checks say of a record of this version
  pub record Passes (expanded : Bool) : Type 0 where
    pub kind : is_expanded k ≡ expanded
    pub layout : layout_answer k ≡ Done
    pub words : secret_words_answer expanded k ≡ Done
    pub codes : codes_answer (codes_part k) ≡ Done

  pub well-formed : (expanded : Bool) → Passes expanded → WellFormedAs expanded k
  well-formed false p =
      let (size, mark, version) = (layout-done k false p.kind).0 p.layout in
      let (a, b) = (secret-words-done false k).0 p.words in
      record {
        size = size;
        front = record { marked = mark; has_version = version; first-words = a; second-words = b };
        codes = (codes-done (codes_part k)).0 p.codes;
      }
  well-formed true p =
      let (size, mark, version) = (layout-done k true p.kind).0 p.layout in
      let ((a, b), i) = (secret-words-done true k).0 p.words in
      record {
        size = size;
        front = record { marked = mark; has_version = version; first-words = a; second-words = b };
        inverse-words = i;
        codes = (codes-done (codes_part k)).0 p.codes;
      }

  pub passes : (expanded : Bool) → WellFormedAs expanded k → Passes expanded
  passes false w =
      let kind = is_version k false w.front.has_version in
      record {
        kind = kind;
        layout = (layout-done k false kind).1 (w.size, w.front.marked, w.front.has_version);
        words = (secret-words-done false k).1 (w.front.first-words, w.front.second-words);
        codes = (codes-done (codes_part k)).1 w.codes;
      }
  passes true w =
      let kind = is_version k true w.front.has_version in
      record {
        kind = kind;
        layout = (layout-done k true kind).1 (w.size, w.front.marked, w.front.has_version);
        words = (secret-words-done true k).1 ((w.front.first-words, w.front.second-words), w.inverse-words);
        codes = (codes-done (codes_part k)).1 w.codes;
      }

  pub second-words : (expanded : Bool) → WellFormedAs expanded k → Element (second_of k)
  second-words false w = w.front.second-words
  second-words true w = w.front.second-words

  -- ---- Done

  -- the version that is read is that of a well-formed record
  in_version : (expanded : Bool) → is_expanded k ≡ expanded → content_answer (is_expanded k) k ≡ content_answer expanded k
  in_version expanded kind = ap (λ (x : Bool). content_answer x k) kind

  pub secret-done : (secret_answer k ≡ Done) ↔ ((expanded : Bool) × WellFormedAs expanded k × UnitAs expanded k × Matches k)
  unfolding secret_answer content_answer
  secret-done = (
    λ e.
        let expanded = is_expanded k in
        let (layout, content) = (then-done _ _).0 e in
        let (words, behind) = (then-done _ _).0 content in
        let (codes, last) = (then-done _ _).0 behind in
        let (unit, matches) = (then-done _ _).0 last in
        let w = well-formed expanded (record { kind = refl; layout = layout; words = words; codes = codes }) in
        (expanded, w, (unit-done expanded k).0 unit, (match-done k (second-words expanded w)).0 matches),
    λ (expanded, w, unit, matches).
        let p = passes expanded w in
        let last = (then-done _ _).1 ((unit-done expanded k).1 unit, (match-done k (second-words expanded w)).1 matches) in
        (then-done _ _).1 (p.layout, in_version expanded p.kind ∙ (then-done _ _).1 (p.words, (then-done _ _).1 (p.codes, last))),
  )

  -- ---- 6 and 13

  unit_said : {n : ℕ} → 5 < n → ¬ (7 ≡ n)
      → (number (secret_answer k) ≡ n) ↔ ((expanded : Bool) × WellFormedAs expanded k × (number (unit_answer expanded k) ≡ n))
  unfolding secret_answer content_answer
  unit_said {n} h other = (
    λ e.
        let expanded = is_expanded k in
        let (layout, content) = (then-says {n = n} _ (layout_never k (omega arith))).0 e in
        let (words, behind) = (then-says _ (words-not expanded)).0 content in
        let (codes, last) = (then-says _ codes-not).0 behind in
        let w = well-formed expanded (record { kind = refl; layout = layout; words = words; codes = codes }) in
        (expanded, w, (then-refuses (unit_answer expanded k) (omega arith) match-not).0 last),
    λ (expanded, w, says).
        let p = passes expanded w in
        let last = (then-refuses (unit_answer expanded k) (omega arith) match-not).1 says in
        let content = (then-says _ (words-not expanded)).1 (p.words, (then-says _ codes-not).1 (p.codes, last)) in
        (then-says {n = n} _ (layout_never k (omega arith))).1 (p.layout, ap number (in_version expanded p.kind) ∙ content),
  )
    where
      words-not : (expanded : Bool) → Never n (secret_words_answer expanded k)
      words-not expanded = secret-words_never (omega arith) (λ e. omega arith) expanded k

      codes-not : Never n (codes_answer (codes_part k))
      codes-not = codes_never (omega arith) (λ e. omega arith) (codes_part k)

      match-not : Never n (match_answer k)
      match-not = match_never (omega arith) other k

  pub secret-not-invertible : (number (secret_answer k) ≡ 6) ↔ (WellFormedKey k × ¬ (Invertible (second_of k)))
  secret-not-invertible =
      Iff.trans (unit_said (omega arith) (λ e. omega arith)) (of, λ (w, none). (false, w, (unit_refused false k).1 none))
    where
      of : ((expanded : Bool) × WellFormedAs expanded k × (number (unit_answer expanded k) ≡ 6)) → WellFormedKey k × ¬ (Invertible (second_of k))
      of (false, w, says) = (w, (unit_refused false k).0 says)
      of (true, w, says) = absurd ((unit_never (omega arith) true (λ e. omega arith) k).never says)

  pub secret-inverse-mismatch : (number (secret_answer k) ≡ 13) ↔ (WellFormedExpandedKey k × ¬ (InverseStored k))
  secret-inverse-mismatch =
      Iff.trans (unit_said (omega arith) (λ e. omega arith)) (of, λ (w, none). (true, w, (unit_refused true k).1 none))
    where
      of : ((expanded : Bool) × WellFormedAs expanded k × (number (unit_answer expanded k) ≡ 13)) → WellFormedExpandedKey k × ¬ (InverseStored k)
      of (false, w, says) = absurd ((unit_never (omega arith) false (λ e. omega arith) k).never says)
      of (true, w, says) = (w, (unit_refused true k).0 says)

  -- ---- 1

  content_never : {n : ℕ} → 0 < n → ¬ (4 ≡ n) → ¬ (5 ≡ n) → ¬ (6 ≡ n) → ¬ (7 ≡ n) → ¬ (13 ≡ n) → (expanded : Bool) → Never n (content_answer expanded k)
  unfolding content_answer
  content_never {n} some h4 h5 h6 h7 h13 expanded =
      then_never (secret-words_never some h4 expanded k)
      (then_never (codes_never some h5 (codes_part k)) (then_never (unit_never some expanded (unit_other expanded) k) (match_never some h7 k)))
    where
      unit_other : (expanded : Bool) → ¬ (unit_number expanded ≡ n)
      unit_other false = h6
      unit_other true = h13

  -- the length is not that of the version
  pub secret-misfit : (number (secret_answer k) ≡ 1) ↔ LengthMisfits k
  unfolding secret_answer
  secret-misfit =
      Iff.trans
      (then-refuses (layout_answer k) (omega arith)
      (content_never (omega arith) (λ e. omega arith) (λ e. omega arith) (λ e. omega arith) (λ e. omega arith) (λ e. omega arith) (is_expanded k)))
      (layout-misfit k)

  -- its checks say 1 to 7 and 13 only
  pub secret_never : {n : ℕ} → 7 < n → ¬ (13 ≡ n) → Never n (secret_answer k)
  unfolding secret_answer
  secret_never h other =
      then_never (layout_never k (omega arith))
      (content_never (omega arith) (λ e. omega arith) (λ e. omega arith) (λ e. omega arith) (λ e. omega arith) other (is_expanded k))

  -- ---- the word that 4 names

  pub secret_named : (l : Location) → Names 4 l (secret_answer k) ↔ SecretNamed k l
  unfolding secret_answer content_answer
  secret_named l = (λ e. named (is_expanded k) refl ((then_names {n = 4} {l = l} _ (layout_never k (omega arith))).0 e), said)
    where
      rest : (expanded : Bool) → Names 4 l (content_answer expanded k) ↔ NamedAs expanded k l
      rest expanded =
          Iff.trans
          (names-first (secret_words_answer expanded k) (omega arith)
          (then_never (codes_never (omega arith) (λ e. omega arith) (codes_part k))
          (then_never (unit_never (omega arith) expanded (not_four expanded) k) (match_never (omega arith) (λ e. omega arith) k))))
          (secret-words_named expanded k l)
        where
          not_four : (expanded : Bool) → ¬ (unit_number expanded ≡ 4)
          not_four false e = omega arith
          not_four true e = omega arith

      named : (expanded : Bool) → is_expanded k ≡ expanded → (layout_answer k ≡ Done) × Names 4 l (content_answer (is_expanded k) k) → SecretNamed k l
      named false kind (layout, names) = inl ((layout-done k false kind).0 layout, (rest false).0 (rw kind at names))
      named true kind (layout, names) = inr ((layout-done k true kind).0 layout, (rest true).0 (rw kind at names))

      by : (expanded : Bool) → is_expanded k ≡ expanded → layout_answer k ≡ Done → NamedAs expanded k l → Names 4 l (and_then (layout_answer k) (content_answer (is_expanded k) k))
      by expanded kind layout names = (then_names {n = 4} {l = l} _ (layout_never k (omega arith))).1 (layout, rw kind ((rest expanded).1 names))

      said : SecretNamed k l → Names 4 l (and_then (layout_answer k) (content_answer (is_expanded k) k))
      said (inl ((size, mark, version), names)) =
          let kind = is_version k false version in by false kind ((layout-done k false kind).1 (size, mark, version)) names
      said (inr ((size, mark, version), names)) =
          let kind = is_version k true version in by true kind ((layout-done k true kind).1 (size, mark, version)) names
