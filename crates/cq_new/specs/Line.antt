-- The line of `init`, in words of a POSIX shell.
use Rattle.std.specs.Prelude.{◌≡◌, ℕ, ◌≤◌, List, [], ◌∷◌, ◌++◌, ◌==◌, ◌&&◌, ◌||◌, Bool, false, String, if◌then◌else◌, codes, length, nat_le, nat_lt, string_bytes}
use Rattle.std.specs.Fmt.{decimal}
use Rattle.std.specs.Global.{Global}
use Rattle.std.specs.List.{flat_map, list_all, list_any}
use Rattle.cq_model.specs.Settings.{texts}
use Rattle.cq_settings.specs.declared.settings.InitSettings.{InitSettings}

-- the byte lies from one to the other
abbrev pub is_within : ℕ → ℕ → ℕ → Bool
is_within first last byte = nat_le first byte && nat_le byte last

-- a letter, a digit, or one of `_`, `-`, `.` and `/`
abbrev pub is_plain : ℕ → Bool
is_plain byte = is_within 65 90 byte || is_within 97 122 byte || is_within 45 57 byte || byte == 95

-- a quote is written outside quotes, with a backslash before it
abbrev pub escaped : ℕ → List ℕ
escaped byte = if byte == 39 then 39 ∷ 92 ∷ 39 ∷ 39 ∷ [] else byte ∷ []

-- it has a byte, and all of its bytes are plain
abbrev pub is_word : List ℕ → Bool
is_word text = nat_lt 0 (length text) && list_all is_plain text

-- what is between the quotes
abbrev pub quoted : List ℕ → List ℕ
quoted text = flat_map escaped text

-- the text as one word of a shell: as it is, or in single quotes
abbrev pub word_of : List ℕ → List ℕ
word_of text = if is_word text then text else codes "'" ++ (quoted text ++ codes "'")

-- the numbers, each after a space
abbrev pub numbers_of : InitSettings → List ℕ
numbers_of made = codes " " ++ (decimal made.epoch ++ (codes " " ++ (decimal made.cells ++ (codes " " ++ (decimal made.index_count
    ++ (codes " " ++ (decimal made.index_spacing ++ (codes " " ++ decimal made.cycles))))))))

-- the names, each after a space
abbrev pub names_of : InitSettings → List ℕ
names_of made = flat_map (λ name. 32 ∷ word_of name) (texts made.names.items)

-- a command would read the text as an option
abbrev pub is_option : List ℕ → Bool
is_option [] = false
is_option (byte ∷ bytes) = byte == 45

-- it would read one of them so
abbrev pub have_option : List (String Global) → Bool
have_option words = list_any (λ word. is_option (string_bytes word)) words

-- it would read the folder, the roll or a name so
abbrev pub has_option : List ℕ → InitSettings → Bool
has_option folder made = is_option folder || (is_option (string_bytes made.roll) || have_option made.names.items)

-- no word after two dashes is an option
abbrev pub dashes_for : List ℕ → InitSettings → List ℕ
dashes_for folder made = if has_option folder made then codes "-- " else []

-- the command that makes a queue with these settings in a folder that is there
abbrev pub init_line : List ℕ → InitSettings → List ℕ
init_line folder made = codes "cq init " ++ (dashes_for folder made ++ (word_of folder ++ (codes " "
    ++ (word_of (string_bytes made.roll) ++ (numbers_of made ++ names_of made)))))
