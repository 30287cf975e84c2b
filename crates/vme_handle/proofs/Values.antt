-- The machine values of a handle.
use Rattle.std.proofs.Common.{◌≡◌, ℕ, List, [], ◌∷◌, ◌++◌, refl, subst, arith}
use seplogic.Ra.Ura.{Ura}
use mir.Raw.{raw as bare}
use mir.Val.{Val, vptr, vstruct, vcons, vnil, of_list}
use base.Logic.{never, fst∗}
use types.Logic.{Logic, sem}
use types.Kit.{Item, Goal, Seq, Step, step, ‵, ◌$◌, drop, fsplit, fjoin, fpick, fpack, feq_i, feq_l, rewrite}
use denote.Exit.{no}
use denote.RattleType.{RattleType, Valss}
use denote.Builtin.{RawPtr}
use denote.Memory.{lone}
use denote.RawPtr.{Ptr, block_ptr, null_ptr, ptr_val, in_a_block}
use denote.Steps.{nothing}
use denote.Param.{arg, layout}
use denote.Param.Laws.{Laws, arg_laws}
use denote.Struct.Struct.{within}
use denote.Struct.Owning.{shape}
use Rattle.std.proofs.cell.Inside.{Good}
use Rattle.std.specs.declared.option.Option.{Option}
use Rattle.std.specs.declared.option.Option.TheVariants.{None, Some}
use Rattle.std.specs.Box.Ownership.{box_owns}
use Rattle.std.specs.contracts.alloc.Global.{the_row as Heap}
use Rattle.std.proofs.alloc.Global.TheLaws as heap_laws
use Rattle.std.specs.contracts.impls.GlobalAllocator.TheImpl.{ghosts}
use Rattle.vme_handle.specs.Held.{held}
use Rattle.vme_processor.specs.contracts.processor.Processor.{the_row as Value}
use Rattle.vme_processor.proofs.processor.Processor.TheLaws as value_laws
use Rattle.vme_handle.specs.contracts.handle.Handle as handle

abbrev pub R : RattleType
R = arg (bare (layout Value)) no Value

abbrev pub Z : RattleType
Z = arg (bare (layout Heap)) no Heap

pub LR : Laws R
LR = arg_laws (bare (layout Value)) no Value value_laws.the_row_laws refl

pub LZ : Laws Z
LZ = arg_laws (bare (layout Heap)) no Heap heap_laws.the_row_laws refl

abbrev pub Handle : RattleType
Handle = handle.the_row

abbrev pub only : Val → Val
only v = vstruct (vcons v vnil)

pub handle_good : (b o : ℕ) → Good (layout Handle) (only (vptr b o))
handle_good b o = (tt, (tt, tt))

pub empty_good : Good (layout Handle) (only (ptr_val null_ptr))
empty_good = (tt, (record { fits = omega arith }, tt))

-- what owns the boxed value at an address, with a handle to the heap
abbrev pub owned : Heap.Denot → Value.Denot → Ptr → base.Fml.Fml
owned heap x p = box_owns (ghosts.dealloc_token heap) Value p x

module _ {M : Type 1} {𝓤 : Ura M} {𝓛 : Logic 𝓤} {K : Type 0} {Γ : List (Item 𝓤)} {G : Goal 𝓤 𝓛.H} where
  -- a handle of a value is the value in its block, with the right to free it
  pub handle_in : K → (b o : ℕ) (heap : Heap.Denot) (x : Value.Denot)
      → Step K 𝓛 (‵ (Handle.own_val (record { at = block_ptr b o; value = Some x }) (only (vptr b o) ∷ [])) ∷ Γ) G (‵ (owned heap x (block_ptr b o)) ∷ Γ) G
  handle_in t b o heap x = step (λ s. let v : Val = only (vptr b o) in
      fpack t Heap.Denot (λ (h : Heap.Denot). owned h x (block_ptr b o)) heap $
      nothing t $ feq_i t (List Val) (vptr b o ∷ []) (vptr b o ∷ []) refl $ fjoin t $ feq_i t (List Val) (v ∷ []) (v ∷ []) refl $ fjoin t $
      fpack t (Valss (RawPtr ∷ [])) (within (shape handle.the_type) (block_ptr b o, tt) (v ∷ [])) (vptr b o ∷ [], tt) $ fjoin t $ s)

  -- a handle of nothing
  pub empty_in : K → Step K 𝓛 (‵ (Handle.own_val (record { at = null_ptr; value = None }) (only (ptr_val null_ptr) ∷ [])) ∷ Γ) G Γ G
  empty_in t = step (λ s. let v : Val = only (ptr_val null_ptr) in
      nothing t $ nothing t $ feq_i t (List Val) (ptr_val null_ptr ∷ []) (ptr_val null_ptr ∷ []) refl $ fjoin t $ feq_i t (List Val) (v ∷ []) (v ∷ []) refl $ fjoin t $
      fpack t (Valss (RawPtr ∷ [])) (within (shape handle.the_type) (null_ptr, tt) (v ∷ [])) (ptr_val null_ptr ∷ [], tt) $ fjoin t $ s)

  -- the value in its block, out of a handle that has one
  pub handle_out : K → (d : Handle.Denot) (vs : List Val) (x : Value.Denot) → d.value ≡ Some x
      → ((b o : ℕ) (heap : Heap.Denot) → d.at ≡ block_ptr b o → vs ≡ only (vptr b o) ∷ [] → Seq K 𝓛 (‵ (owned heap x (block_ptr b o)) ∷ Γ) G)
      → Seq K 𝓛 (‵ (Handle.own_val d vs) ∷ Γ) G
  handle_out t d vs x full k =
      fsplit t $ fpick t (λ vss. fsplit t $ feq_l t (λ ev. fsplit t $ feq_l t (λ ep. drop t $
      rewrite t 0 (λ (o : Option Value.Denot). ‵ (held d.at o)) full refl $ fpick t (λ heap.
      in_a_block t d.at (owned heap x) (fst∗ 𝓤 (never 𝓤) (sem 𝓛 (ghosts.dealloc_token heap (bare (lone Value.mir)) null_ptr))) (λ b o e. k b o heap e
      (subst (λ (p : Ptr). vs ≡ vstruct (of_list (ptr_val p ∷ [])) ∷ []) e (subst (λ (ps : List Val). vs ≡ vstruct (of_list (ps ++ [])) ∷ []) ep ev)))))))
