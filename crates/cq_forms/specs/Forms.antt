-- How a message is printed. A message is a pair of its index and its bytes.
use Rattle.std.specs.Prelude.{ℕ, List, [], ◌∷◌, ◌++◌, codes, if◌then◌else◌}
use Rattle.std.specs.Fmt.{decimal}
use Rattle.std.specs.Str.{is_utf8}
use Rattle.base64.specs.Engines.{standard}
use Rattle.base64.specs.GeneralPurpose.{encode_of}
use Rattle.hex.specs.Hex.{encode_lower}
use Rattle.json.specs.Print.{print}
use Rattle.json.specs.Token.{Token, begin_object, end_object, key, number, string}
use Rattle.cq_cycle.specs.Index.{cycle_in, index_text, sequence_in}
use Rattle.cq_model.specs.Finds.{Placed}
use Rattle.cq_orders.specs.declared.settings.ReadForm.{ReadForm}
use Rattle.cq_orders.specs.declared.settings.ReadForm.TheVariants.{Hex, Json, Line, Null, Text}

-- the line of a message: its index, a space, its bytes and a line feed
abbrev pub message_line : Placed → List ℕ
message_line found = index_text found.0 ++ 32 ∷ found.1 ++ 10 ∷ []

-- the index of a message, a space, its bytes in hexadecimal digits and a line feed
abbrev pub hex_line : Placed → List ℕ
hex_line found = index_text found.0 ++ 32 ∷ encode_lower found.1 ++ 10 ∷ []

-- where a message is: its index, the name of its cycle and its sequence number
abbrev pub place_tokens : List ℕ → ℕ → List Token
place_tokens name index =
    key (codes "index") ∷ string (index_text index) ∷ key (codes "cycle") ∷ string name
    ∷ key (codes "sequence") ∷ number (decimal (sequence_in index)) ∷ []

-- the bytes of a message as text where they are UTF-8, else in base64
abbrev pub bytes_tokens : List ℕ → List Token
bytes_tokens bytes =
    if is_utf8 bytes then key (codes "text") ∷ string bytes ∷ []
    else key (codes "base64") ∷ string (encode_of standard bytes) ∷ []

-- the object of a message in a cycle of this name
abbrev pub object_tokens : List ℕ → Placed → List Token
object_tokens name found = (begin_object ∷ place_tokens name found.0) ++ bytes_tokens found.1 ++ end_object ∷ []

-- the object as JSON, and a line feed
abbrev pub json_line : List ℕ → Placed → List ℕ
json_line name found = print (object_tokens name found) ++ 10 ∷ []

-- a message in a form, where cycles have these names
abbrev pub formed : ReadForm → (ℕ → List ℕ) → Placed → List ℕ
formed Line names found = message_line found
formed Text names found = found.1 ++ 10 ∷ []
formed Null names found = found.1 ++ 0 ∷ []
formed Hex names found = hex_line found
formed Json names found = json_line (names (cycle_in found.0)) found
