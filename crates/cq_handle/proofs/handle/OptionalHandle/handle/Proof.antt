-- `handle` compares the address with null, and moves two fields with what they own.
use mathlib.Core.Path.{◌≡◌, refl, sym, subst}
use mathlib.Core.List.{List, [], ◌∷◌, ◌++◌}
use Prim.Native.Nat.{ℕ}
use lib.Dec.{T, lit<}
use seplogic.Ra.Ura.{Ura}
use mir.Raw.{raw as bare}
use mir.Val.{Val, WT, has_ty, vnull, vstruct, vcons, vnil, of_list}
use base.Fraction.{full_share}
use base.Logic.{SProp, ent, via, emp, id⊢, never_e, guard, guard_i, snd∗}
use base.Fml.{ftrue, fsep}
use prog.Memory.{Memory}
use prog.Routine.{Routine}
use prog.Wp.{WpFn, Tables}
use types.Logic.{Logic, sem}
use contract.Monad.{Fun, fact_use}
use contract.Running.{tables, tables_of}
use sound.WpLaws.{WpFn-mono}
use types.Kit.{Goal, Item, Seq, ‵, raw, given, ◌⊛◌, at_ret, ◌$◌, ◌∵◌, !, qed, by, move, drop, use0, use1, join, split, fsplit, fpick, fjoin, feq_l, learn, suffices, done}
use types.Part.{whole, sub, agg}
use types.Match.{live}
use types.Run.{stop, fld, lit, bin, no_more, and_then, of_opd, first, branches, exec, returns, enter}
use types.ByLocal.{alloc_all, pass_all, free_all, look_at, get, get_in, sets, sets_last, env}
use denote.Exit.{yes}
use denote.Param.{layout}
use denote.RawPtr.{Ptr, Testable, block_ptr, lies_at, null_ptr, ptr_val, tests_null}
use denote.Signature.{type_at, plain, Slot}
use denote.Steps.{nothing}
use denote.Triple.Spec.{triple_of}
use denote.Triple.Table.{entered}
use denote.Triple.Walked.{says, Stays, stay_dropped, walk_of, ends_at, Goes-dropped, walk_Meets}
use Rattle.core.proofs.alloc.Calls.{Fits, handle_tells, token, α}
use Rattle.core.proofs.alloc.Shapes.{after}
use Rattle.core.proofs.option.Made.{Some-of, none_of}
use Rattle.core.specs.declared.option.Option.{Option}
use Rattle.core.specs.declared.option.Option.TheVariants.{None, Some}
use Rattle.std.proofs.GlobalToken.{dealloc_token-Testable}
use Rattle.std_alloc.proofs.BoxSteps.Form.{D, R, τ, word, box_typed}
use Rattle.std_alloc.proofs.BoxSteps.Steps.{box_in}
use Rattle.std_alloc.proofs.ResultValues.{and_tt}
use Rattle.cq_handle.proofs.AsBox.{E}
use Rattle.cq_handle.specs.Handles.{handle_owns, optional_owns}
use Rattle.cq_handle.specs.contracts.handle.Handle as Hd
use Rattle.cq_handle.specs.contracts.handle.OptionalHandle as Optional
use Rattle.cq_handle.specs.contracts.held.Held as Held
use Rattle.cq_handle.specs.contracts.handle.OptionalHandle.handle as F
use Rattle.cq_handle.specs.contracts.handle.OptionalHandle.handle.Key.{name as #self}
use Rattle.cq_handle.proofs.handle.OptionalHandle.handle.Statement as stated
use Rattle.cq_handle.proofs.handle.OptionalHandle.handle.Code as code
use Rattle.std_heap.specs.declared.Global.{Global}

abbrev From : Slot 0
From = plain (λ _. Optional.the_row)

abbrev stayed : Stays (F.ended).signature.params (F.ended).kept
stayed = (stay_dropped From yes, tt)

abbrev X : Type 0
X = Held.the_row.Denot

-- the machine's word of a zero handle, and of a handle in an option, have their types
null_typed : (hv : Val) → Fits E.al hv → let w : Val = vstruct (vcons vnull (vcons hv vnil)) in T (has_ty (layout Optional.the_row) w) × WT w
null_typed hv fa = (and_tt (has_ty (α E.al) hv) fa.0, (record { fits = lit< tt }, (fa.1, tt)))

some_typed : (hv : Val) (b o : ℕ) → Fits E.al hv → let w : Val = live 1 (vcons (word E hv b o) vnil) in T (has_ty (layout (type_at (F.signature).result tt)) w) × WT w
some_typed hv b o fa =
    let typed = box_typed E hv b o fa in
    (and_tt (has_ty (layout Hd.the_row) (word E hv b o)) typed.0, (record { fits = lit< tt }, (typed.1, tt)))

module _ {M : Type 1} {𝓤 : Ura M} (𝓛 : Logic 𝓤) where
  -- the address of what is held may be compared with null
  tested : (a : Global) (p : Ptr) (x : X) → ent 𝓤 (sem 𝓛 (handle_owns a p x)) (guard 𝓤 (Testable p) (sem 𝓛 (handle_owns a p x)))
  tested a p x = fact_use 𝓤 (Testable p) (via 𝓤 _ (snd∗ 𝓤 (sem 𝓛 (lies_at (R E) full_share p x)) (sem 𝓛 (token E.al a (bare (τ E)) p))) (dealloc_token-Testable 𝓛 a (bare (τ E)) p)) (guard_i 𝓤 (Testable p) _)

module _ {M : Type 1} {𝓤 : Ura M} {𝓛 : Logic 𝓤} {K : Type 0} {Γ : List (Item 𝓤)} {G : Goal 𝓤 𝓛.H} where
  -- it is zero and holds nothing, or it is not and owns what a handle does
  either : K → (a : Global) (p : Ptr) (h : Option X) → (p ≡ null_ptr → h ≡ None → Seq K 𝓛 Γ G)
      → ((b o : ℕ) (x : X) → p ≡ block_ptr b o → h ≡ Some x → Seq K 𝓛 (‵ (handle_owns a (block_ptr b o) x) ∷ Γ) G)
      → Seq K 𝓛 (‵ (optional_owns a p h) ∷ Γ) G
  either t a null_ptr None none one = drop t $ none refl refl
  either t a (block_ptr b o) (Some x) none one = one b o x refl refl
  either t a null_ptr (Some x) none one = use1 𝓛 (given ⊥ (‵ ftrue)) (never_e 𝓤 _) $ learn t (λ z. absurd z)
  either t a (block_ptr b o) None none one = use1 𝓛 (given ⊥ (‵ ftrue)) (never_e 𝓤 _) $ learn t (λ z. absurd z)

module _ {M : Type 1} {𝓤 : Ura M} (𝓛 : Logic 𝓤) (at_mem : Memory → SProp 𝓤) (run : Routine → Fun 𝓤) (𝓣 : Tables 𝓤 𝓛.H) where
  open 𝓛 use {H}

  walk : (z : (walk_of 𝓛 F.ended stayed (F.clauses 𝓛 at_mem run)).Ghost)
      → ent 𝓤 ((walk_of 𝓛 F.ended stayed (F.clauses 𝓛 at_mem run)).pre z) (WpFn 𝓤 H 𝓣.C 𝓣.Λ code.function (z.0.4.0 ++ []) ((walk_of 𝓛 F.ended stayed (F.clauses 𝓛 at_mem run)).post z))
  walk z =
      let Post = (walk_of 𝓛 F.ended stayed (F.clauses 𝓛 at_mem run)).post z in
      let d = z.0.3.0 in
      let Out = type_at (F.signature).result tt in
      qed 𝓛 ((‵ ftrue ⊛ ‵ (fsep (Optional.the_row.own_val d z.0.4.0) ftrue)) ∷ raw (emp 𝓤) ∷ []) ∵ split ! $ drop ! $ fsplit ! $
      fsplit ! $ fpick ! (λ vss. fsplit ! $ feq_l ! (λ ev. fsplit ! $ feq_l ! (λ ep. fsplit ! $ handle_tells E.al ! d.alloc vss.1.0 (λ hv ea fa. move ! (1 ∷ []) $ drop ! $ move ! (1 ∷ []) $
      let spelled : (p : Ptr) → d.at ≡ p → z.0.4.0 ≡ vstruct (of_list (ptr_val p ∷ hv ∷ [])) ∷ [] = λ p e.
      subst (λ (q : Ptr). z.0.4.0 ≡ vstruct (of_list (ptr_val q ∷ hv ∷ [])) ∷ []) e
      (subst (λ (ws : List Val). z.0.4.0 ≡ vstruct (of_list (ptr_val d.at ∷ (ws ++ []))) ∷ []) ea (subst (λ (ps : List Val). z.0.4.0 ≡ vstruct (of_list (ps ++ (vss.1.0 ++ []))) ∷ []) ep ev)) in
      either ! d.alloc d.at d.held
      (λ e n. drop ! $ drop ! $ drop ! $
      let w = vstruct (vcons vnull (vcons hv vnil)) in
      let none = live 0 vnil in
      by ! (subst (λ (us : List Val). ent 𝓤 (types.Kit.⋆ 𝓛 []) (WpFn 𝓤 H 𝓣.C 𝓣.Λ code.function (us ++ []) Post)) (sym (spelled null_ptr e))
      (qed 𝓛 [] ∵ enter ! 𝓣.C 𝓣.Λ code.function (w ∷ []) _ $ alloc_all ! (λ ls. pass_all ! refl (null_typed hv fa, tt) $ let Ev = env code.function.locals ls in
      sets ! (of_opd ! (get_in ! (fld ! refl (stop !)) (sub ! 0 refl (whole !)))) refl (tt, record { fits = lit< tt }) $ sets ! (of_opd ! (get_in ! (fld ! refl (stop !)) (sub ! 1 refl (whole !)))) refl fa $
      sets ! (bin ! (get ! refl) (lit ! tt) tt) refl (tt, tt) $ first ! $ branches ! (get ! refl)
      (λ _. sets_last ! (agg ! (and_then ! (lit ! tt) (no_more !))) refl (tt, (record { fits = lit< tt }, tt)) $ exec ! 𝓣.C 𝓣.Λ Ev (after 4 code.function.body) (at_ret Ev Post) $
      sets ! (of_opd ! (get ! refl)) refl (tt, (record { fits = lit< tt }, tt)) $ use0 𝓛 (‵ (Out.own_val None (none ∷ []))) (none_of 𝓛 Hd.the_row) $
      returns ! (look_at ! 0 refl) $ free_all ! refl $ suffices ! _ (ends_at 𝓛 F.ended stayed (F.clauses 𝓛 at_mem run) z none None (tt, tt) (tt, tt)) $ says ! n $
      nothing ! $ nothing ! $ fjoin ! $ join ! $ nothing ! $ join ! $ done !)
      (λ wrong. absurd wrong)))))
      (λ b o x e s. use1 𝓛 (given (Testable (block_ptr b o)) (‵ (handle_owns d.alloc (block_ptr b o) x))) (tested 𝓛 d.alloc (block_ptr b o) x) $ learn ! (λ t. fsplit ! $
      let v : D E = record { ptr = block_ptr b o; alloc = d.alloc; value = x } in
      let made : Hd.the_row.Denot = record { at = block_ptr b o; alloc = d.alloc; held = x } in
      let w = word E hv b o in
      let typed = box_typed E hv b o fa in
      let some = live 1 (vcons w vnil) in
      let Γ : List (Item 𝓤) = ‵ (Hd.the_row.own_val made (w ∷ [])) ∷ [] in
      box_in E ! v b o x refl refl $ use1 𝓛 (‵ (Hd.the_row.own_val made (w ∷ []))) (id⊢ 𝓤 _) $ move ! (1 ∷ 2 ∷ []) $ drop ! $ drop ! $
      by ! (subst (λ (us : List Val). ent 𝓤 (types.Kit.⋆ 𝓛 Γ) (WpFn 𝓤 H 𝓣.C 𝓣.Λ code.function (us ++ []) Post)) (sym (spelled (block_ptr b o) e))
      (qed 𝓛 Γ ∵ enter ! 𝓣.C 𝓣.Λ code.function (w ∷ []) _ $ alloc_all ! (λ ls. pass_all ! refl (typed, tt) $ let Ev = env code.function.locals ls in
      sets ! (of_opd ! (get_in ! (fld ! refl (stop !)) (sub ! 0 refl (whole !)))) refl (tt, tt) $ sets ! (of_opd ! (get_in ! (fld ! refl (stop !)) (sub ! 1 refl (whole !)))) refl fa $
      sets ! (bin ! (get ! refl) (lit ! tt) (tests_null (block_ptr b o) t)) refl (tt, tt) $ first ! $ branches ! (get ! refl) (λ wrong. absurd wrong)
      (λ _. sets ! (agg ! (and_then ! (get ! refl) (and_then ! (get ! refl) (no_more !)))) refl typed $ sets_last ! (agg ! (and_then ! (lit ! tt) (and_then ! (get ! refl) (no_more !)))) refl (some_typed hv b o fa) $
      exec ! 𝓣.C 𝓣.Λ Ev (after 4 code.function.body) (at_ret Ev Post) $ sets ! (of_opd ! (get ! refl)) refl (some_typed hv b o fa) $
      use1 𝓛 (‵ (Out.own_val (Some made) (some ∷ []))) (Some-of 𝓛 Hd.the_row made w) $
      returns ! (look_at ! 0 refl) $ free_all ! refl $ suffices ! _ (ends_at 𝓛 F.ended stayed (F.clauses 𝓛 at_mem run) z some (Some made) (tt, tt) (tt, tt)) $ says ! s $
      nothing ! $ nothing ! $ fjoin ! $ join ! $ nothing ! $ join ! $ done !))))))))))

pub handle_spec : {M : Type 1} → stated.statement M
unfolding tables_of
handle_spec 𝓤 𝓛 𝓜 𝓡 wired =
    let 𝓣 : Tables 𝓤 𝓛.H = tables_of 𝓤 𝓛.H 𝓜 (tables 𝓤 𝓛.H 𝓜 𝓡 𝓡.env) in
    entered 𝓤 𝓛.H (triple_of 𝓛 F.signature (F.spec 𝓛 𝓜.mem 𝓡.returns)) 𝓣.C 𝓣.Λ #self code.function (code.unfolded 𝓤 𝓛.H 𝓜 𝓡 wired)
    (walk_Meets 𝓛 F.ended stayed (Goes-dropped 𝓛 0 From yes (λ κs x f. refl), tt) (F.clauses 𝓛 𝓜.mem 𝓡.returns) (WpFn 𝓤 𝓛.H 𝓣.C 𝓣.Λ code.function) (WpFn-mono 𝓤 𝓛.H 𝓛.laws 𝓣 code.function)
    (walk 𝓛 𝓜.mem 𝓡.returns 𝓣))
