-- What is taken of the bytes that came.
use Rattle.std.proofs.Common.{◌≡◌, ◌≤◌, ◌-◌, ◌++◌, [], List, ap, arith, drop, inl, inr, length, refl, subst, sym, take, ◌∙◌, ℕ}
use Rattle.std.proofs.lemmas.List.{length-drop, length-take-le, take_at}
use Rattle.cq_input.specs.Sections.{EndsAfter, Gives, GoesOnIn}
use Rattle.cq_input.specs.declared.sections.Place.TheVariants.{AtEnd, AtEndOfInput, Inside}
use Rattle.cq_input.specs.declared.sections.Sections.{Sections}

within : (missing count : ℕ) (came : List ℕ) → EndsAfter missing came count → count ≤ length came
within missing count came ends = omega (arith, ends.count_is, ends.is.within, length-drop (missing - 1) came)

front : (count : ℕ) (copied rest came : List ℕ) → copied ≡ take count came → count ≤ length came → take count (copied ++ rest) ≡ take count came
front count copied rest came is le = take_at copied rest count (ap length is ∙ length-take-le count came le) ∙ is

module _ {R : Type 0} (old new : Sections R) (count : ℕ) (copied rest came : List ℕ) (is : copied ≡ take count came) (least : new.least ≡ old.least)
    (missing : new.missing ≡ old.missing - count) where
  long : count ≤ length came → length (take count (copied ++ rest)) ≡ count
  long le = ap length (front count copied rest came is le) ∙ length-take-le count came le

  first : count ≤ length came → take count (copied ++ rest) ≡ take (length (take count (copied ++ rest))) came
  first le = front count copied rest came is le ∙ ap (λ (n : ℕ). take n came) (sym (long le))

  pub gives_end : EndsAfter old.missing came count → new.place ≡ AtEnd → Gives old new (take count (copied ++ rest))
  gives_end ends place =
      let le = within old.missing count came ends in
      record {
        came = came;
        first = first le;
        least = least;
        missing = missing ∙ ap (λ (n : ℕ). old.missing - n) (sym (long le));
        place = inl (place, subst (EndsAfter old.missing came) (sym (long le)) ends);
      }

  pub gives_all : GoesOnIn old.missing came → count ≡ length came → new.place ≡ Inside → Gives old new (take count (copied ++ rest))
  gives_all goes_on all place =
      let le : count ≤ length came = omega (arith, all) in
      record {
        came = came;
        first = first le;
        least = least;
        missing = missing ∙ ap (λ (n : ℕ). old.missing - n) (sym (long le));
        place = inr (inl (place, goes_on, long le ∙ all));
      }
