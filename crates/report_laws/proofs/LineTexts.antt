-- Texts in which no line after the first begins as an entry or the last line of a report does.
use Rattle.std.proofs.Common.{◌≡◌, ◌≢◌, ◌+◌, ◌==◌, ℕ, zero, suc, ℤ, pos, negsuc, Bool, true, false, List, []}
use Rattle.std.proofs.Common.{◌∷◌, ◌++◌, get_or, ap, ◌∙◌, arith}
use Rattle.std.specs.Prelude.{All, decimal, map, nat_lt, if◌then◌else◌, ◌/◌, ◌%◌}
use Rattle.std.specs.Fmt.{digit_glyph, digits, digits_onto, signed_decimal}
use Rattle.std.specs.List.{join_with_byte}
use Rattle.std.proofs.lemmas.Bool.Decides.{Decides-eqb}
use Rattle.std.proofs.lemmas.List.Elements.{All-head, All-tail}
use Rattle.memchr.specs.Find.{OccursAt}
use Rattle.report_laws.specs.LineStarts.{HasApartLines, StartsApart}

-- ---- parts of a line

abbrev pub IsInLine : ℕ → Type 0
IsInLine byte = byte ≢ 10

-- all bytes of a text are within a line
abbrev pub IsPart : List ℕ → Type 0
IsPart [] = Unit {0}
IsPart (b ∷ bs) = (b ≢ 10) × IsPart bs

pub part_append : (xs ys : List ℕ) → IsPart xs → IsPart ys → IsPart (xs ++ ys)
part_append [] ys p q = q
part_append (x ∷ xs) ys p q = (p.0, part_append xs ys p.1 q)

glyph_in_line : (small : Bool) (d : ℕ) → (if small then 48 + d else (if false then 55 + d else 87 + d)) ≢ 10
glyph_in_line true d e = omega (arith, e)
glyph_in_line false d e = omega (arith, e)

choice_part : (b : Bool) (xs ys : List ℕ) → IsPart xs → IsPart ys → IsPart (if b then xs else ys)
choice_part true xs ys p q = p
choice_part false xs ys p q = q

glyph_part : (d : ℕ) (acc : List ℕ) → IsPart acc → IsPart (digit_glyph false d ∷ acc)
glyph_part d acc p = (glyph_in_line (nat_lt d 10) d, p)

onto_part : (k n : ℕ) (acc : List ℕ) → IsPart acc → IsPart (digits_onto k 10 false n acc)
onto_part zero n acc p = p
onto_part (suc k) n acc p = choice_part (n / 10 == 0) (digit_glyph false (n % 10) ∷ acc)
    (digits_onto k 10 false (n / 10) (digit_glyph false (n % 10) ∷ acc)) (glyph_part (n % 10) acc p)
    (onto_part k (n / 10) (digit_glyph false (n % 10) ∷ acc) (glyph_part (n % 10) acc p))

pub decimal_part : (n : ℕ) → IsPart (decimal n)
unfolding digits
decimal_part n = onto_part 64 n [] tt

pub signed_part : (z : ℤ) → IsPart (signed_decimal z)
signed_part (pos n) = decimal_part n
signed_part (negsuc n) = ((λ e. omega (arith, e)), decimal_part (suc n))

pub join_part : (f : ℤ → List ℕ) (zs : List ℤ) → ((z : ℤ) → IsPart (f z)) → IsPart (join_with_byte 32 (map f zs))
join_part f [] h = tt
join_part f (z ∷ []) h = h z
join_part f (z ∷ y ∷ zs) h =
    part_append (f z) (32 ∷ join_with_byte 32 (map f (y ∷ zs))) (h z) ((λ e. omega (arith, e)), join_part f (y ∷ zs) h)

-- ---- lines

pub part_before : (xs ys : List ℕ) → IsPart xs → HasApartLines ys → HasApartLines (xs ++ ys)
part_before [] ys p h = h
part_before (x ∷ xs) ys p h = ((λ e. absurd (p.0 e)), part_before xs ys p.1 h)

pub line_before : (xs rest : List ℕ) → IsPart xs → StartsApart rest → HasApartLines rest
    → HasApartLines (xs ++ (10 ∷ rest))
line_before xs rest p starts h = part_before xs (10 ∷ rest) p ((λ e. starts), h)

-- no line after the first begins so
pub no_line_begins : (text : List ℕ) (byte : ℕ) (more : List ℕ) (at : ℕ) → (StartsApart (byte ∷ more) → ⊥)
    → HasApartLines text
    → OccursAt text (10 ∷ byte ∷ more) at → ⊥
no_line_begins [] byte more at begins h o = absurd (omega (arith, o.fits))
no_line_begins (b ∷ []) byte more at begins h o = absurd (omega (arith, o.fits))
no_line_begins (b ∷ c ∷ text) byte more zero begins h o =
    let feed : b ≡ 10 = o.reads 0 (omega arith) in
    let next : c ≡ byte = o.reads 1 (omega arith) in
    let apart : (c ≢ 74) × (c ≢ 69) = h.0 feed in
    begins ((λ e. apart.0 (next ∙ e)), (λ e. apart.1 (next ∙ e)))
no_line_begins (b ∷ c ∷ text) byte more (suc at) begins h o =
    no_line_begins (c ∷ text) byte more at begins h.1 (record {
      fits = omega (arith, o.fits);
      reads = λ j l. ap (λ (i : ℕ). get_or (b ∷ c ∷ text) i 0) (plus at j) ∙ o.reads j l;
    })
  where
    plus : (at j : ℕ) → suc (at + j) ≡ suc at + j
    plus at j = omega arith

-- ---- texts that are written out

abbrev pub is_part : List ℕ → Bool
is_part [] = true
is_part (b ∷ bs) = if b == 10 then false else is_part bs

pub tested_part : (xs : List ℕ) → is_part xs ≡ true → IsPart xs
tested_part [] e = tt
tested_part (b ∷ bs) e = by (b == 10) ((Decides-eqb b 10).1) (λ t. tested_part bs t) e
  where
    by : (test : Bool) → (b ≡ 10 → test ≡ true) → (is_part bs ≡ true → IsPart bs)
        → (if test then false else is_part bs) ≡ true → IsPart (b ∷ bs)
    by true is rest e = absurd (cc)
    by false is rest e = ((λ h. let t = is h in absurd (cc)), rest e)

pub part_of_name : (xs : List ℕ) → All (λ byte. byte ≢ 10) xs → IsPart xs
part_of_name [] all = tt
part_of_name (b ∷ bs) all = (All-head IsInLine b bs all, part_of_name bs (All-tail IsInLine b bs all))

-- a text that begins apart, whatever follows it
abbrev pub BeginsApart : List ℕ → Type 0
BeginsApart [] = ⊥
BeginsApart (b ∷ bs) = (b ≢ 74) × (b ≢ 69)

pub begins_append : (xs ys : List ℕ) → BeginsApart xs → BeginsApart (xs ++ ys)
begins_append [] ys h = absurd h
begins_append (x ∷ xs) ys h = h

pub begins_starts : (xs : List ℕ) → BeginsApart xs → StartsApart xs
begins_starts [] h = absurd h
begins_starts (x ∷ xs) h = h
