-- The digest of a batch.
use Rattle.std.specs.Prelude.{ℕ, List}
use Rattle.sha2.specs.Sha256.{sha256}
use Rattle.hex.specs.Hex.{encode_lower}

-- the SHA-256 of these bytes, in hexadecimal digits
abbrev pub digest_text : List ℕ → List ℕ
digest_text bytes = encode_lower (sha256 bytes)
