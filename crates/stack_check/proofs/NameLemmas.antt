-- Names are short texts.
use Rattle.std.proofs.Common.{◌≡◌, ℕ, ◌&&◌, ◌<◌, ◌≤◌, true, not, codes, List, [], ◌∷◌, length, arith}
use Rattle.std.specs.Prelude.{IsTrue, nat_le}
use Rattle.std.specs.List.{list_all}
use Rattle.std.specs.Str.{IsAscii, IsUtf8, bytes_eq}
use Rattle.std.proofs.lemmas.Bool.{and_parts, leb-true}
use Rattle.std.proofs.lemmas.Bool.Decides.{nat_tests}
use Rattle.std.proofs.lemmas.Str.{IsUtf8-from_ascii}
use Rattle.std.proofs.lemmas.Str.Ascii.{IsAscii-nil, IsAscii-cons}
use Rattle.decl_text.specs.Text.{begins_with_letter, is_name, is_name_byte}

name_byte_small : (byte : ℕ) → is_name_byte byte ≡ true → byte < 128
name_byte_small byte is = grind (arith, nat_tests)

names_are_ascii : (word : List ℕ) → list_all is_name_byte word ≡ true → IsAscii word
names_are_ascii [] all = IsAscii-nil
names_are_ascii (byte ∷ word) all =
    let parts = and_parts (is_name_byte byte) (list_all is_name_byte word) all in
    IsAscii-cons byte word (name_byte_small byte parts.0) (names_are_ascii word parts.1)

name_parts : (word : List ℕ) → IsTrue (is_name word) → (length word ≤ 16) × (list_all is_name_byte word ≡ true)
unfolding is_name
name_parts word is =
    let short = nat_le (length word) 16 in
    let apart = not (bytes_eq word (codes "fs")) in
    let outer = and_parts (short && apart && begins_with_letter word) (list_all is_name_byte word) is in
    let middle = and_parts (short && apart) (begins_with_letter word) outer.0 in
    (leb-true (length word) 16 (and_parts short apart middle.0).0, outer.1)

pub name_short : (word : List ℕ) → IsTrue (is_name word) → length word ≤ 16
name_short word is = (name_parts word is).0

pub name_is_text : (word : List ℕ) → IsTrue (is_name word) → IsUtf8 word
name_is_text word is = IsUtf8-from_ascii word (names_are_ascii word (name_parts word is).1)
