-- What is planned for an image.
use Rattle.std.proofs.Common.{◌≡◌, ◌≢◌, ◌∙◌, ℕ, List, [], ◌∷◌, ◌++◌, Bool, true, false, not, Global, ap, map, refl, subst, sym}
use Rattle.std.proofs.lemmas.Slice.Eq.{bytes_eq-Decides}
use Rattle.std.specs.Prelude.{Contains, Option, None, Some, IsTrue, String}
use Rattle.std.specs.Option.{is_none}
use Rattle.std.specs.Str.{bytes_eq}
use Rattle.cq_config_text.specs.ConfigText.{IsTextOf}
use Rattle.cq_folder.specs.Folder.{NamedFile, is_named, named_file}
use Rattle.cq_folder.specs.declared.storage.NewFile.{NewFile}
use Rattle.cq_folder.proofs.NamedLemmas.{contained, named}
use Rattle.cq_image.specs.Image.{AreNext}
use Rattle.cq_image.specs.declared.fault.ImageFault.{ImageFault}
use Rattle.cq_image.specs.declared.found.Salvaged.{Salvaged}
use Rattle.cq_layout.specs.Layout.{CycleLayout}
use Rattle.cq_model.specs.Settings.{texts}
use Rattle.cq_repair.specs.Kept.{AreChanges, both, image, image_after, positions_after}
use Rattle.cq_repair.specs.Plans.{AreBeforeFault, IsConfigFile}
use Rattle.cq_repair.specs.declared.finding.Found.{Found}

some_fault : (fault : Option ImageFault) → is_none fault ≡ false → fault ≢ None
some_fault None is none = clash is
  where
    clash : true ≡ false → ⊥
    clash same = cc
some_fault (Some fault) is none = unequal none
  where
    unequal : Some fault ≡ None → ⊥
    unequal same = cc

-- what was found before a fault
pub before_fault : (layout : CycleLayout) (found is : Salvaged) (copies : List (List ℕ)) → found ≡ is → is_none found.fault ≡ false
    → copies ≡ found.messages → AreNext layout [] is.messages → AreBeforeFault layout is copies
before_fault layout found is copies same faulty all fit = record {
  faulty = some_fault is.fault (ap (λ (s : Salvaged). is_none s.fault) (sym same) ∙ faulty);
  all = all ∙ ap (λ (s : Salvaged). s.messages) same;
  fit = subst (AreNext layout []) (sym (all ∙ ap (λ (s : Salvaged). s.messages) same)) fit;
}

-- lists that compare as the same, and as others
pub same_list : (xs ys : List ℕ) → false ≡ not (bytes_eq xs ys) → xs ≡ ys
same_list xs ys is = (bytes_eq-Decides xs ys).0 (by (bytes_eq xs ys) is)
  where
    by : (b : Bool) → false ≡ not b → b ≡ true
    by true same = refl
    by false same = same

pub other_list : (xs ys : List ℕ) → true ≡ not (bytes_eq xs ys) → xs ≢ ys
other_list xs ys other same = by (bytes_eq xs ys) other ((bytes_eq-Decides xs ys).1 same)
  where
    clash : true ≡ false → ⊥
    clash is = cc

    by : (b : Bool) → true ≡ not b → b ≡ true → ⊥
    by true is holds = clash is
    by false is holds = clash (sym holds)

-- the image alone changes
pub image_alone : (file : List ℕ) (ended : Bool) (found : Found) (none one : List NewFile) (made : NewFile) (positions : List ℕ) → none ≡ []
    → one ≡ none ++ made ∷ [] → named_file made ≡ (file, image_after ended found) → positions ≡ positions_after ended found
    → positions ≡ found.saved.positions.items → AreChanges file ended found (map named_file one)
image_alone file ended found none one made positions empty pushed is after same =
    image (sym after ∙ same)
    (ap (map named_file) (pushed ∙ ap (λ (xs : List NewFile). xs ++ made ∷ []) empty)
    ∙ ap (λ (f : NamedFile). f ∷ []) is)

-- the configuration changes too
pub both_change : (file : List ℕ) (ended : Bool) (found : Found) (none one two : List NewFile) (made config : NewFile) (positions given : List ℕ)
    → none ≡ [] → one ≡ none ++ made ∷ [] → two ≡ one ++ config ∷ [] → named_file made ≡ (file, image_after ended found)
    → positions ≡ positions_after ended found → positions ≢ found.saved.positions.items → given ≡ positions
    → IsConfigFile found given (named_file config) → AreChanges file ended found (map named_file two)
both_change file ended found none one two made config positions given empty first second is after other same file_is =
    both config.bytes.items (λ back. other (after ∙ back))
    (subst (λ (ps : List ℕ). IsTextOf found.saved.config ps found.saved.floor config.bytes.items) (same ∙ after) file_is.spelled)
    (ap (map named_file) (second ∙ ap (λ (xs : List NewFile). xs ++ config ∷ []) (first ∙ ap (λ (xs : List NewFile). xs ++ made ∷ []) empty))
    ∙ (ap (λ (f : NamedFile). f ∷ named_file config ∷ []) is
    ∙ ap (λ (name : List ℕ). (file, image_after ended found) ∷ (name, config.bytes.items) ∷ []) file_is.named))

-- whether a name is one of these
pub taken_is : (names : List (String Global)) (name wanted : List ℕ) (taken : Bool) → taken ≡ is_named names name → name ≡ wanted
    → (IsTrue taken → Contains (texts names) wanted) × (Contains (texts names) wanted → IsTrue taken)
taken_is names name wanted taken is same = (
  λ yes. subst (Contains (texts names)) same (named names name (sym is ∙ yes)),
  λ has. is ∙ contained names name (subst (Contains (texts names)) (sym same) has),
)
