-- Three references lend their shares of the table and its seats; the rule is looked at by them and they go back as they
-- came, so the fact is told and nothing changes.
use Rattle.atomic_table.proofs.Names.{◌≡◌, ℕ, List, [], ◌∷◌, refl, a_type, dcons, dnil, named, Val, vunit, vptr, inst_fn, SProp, emp, Fml, ftrue, fsep, flft, ‵, raw, ◌⊛◌, given, ◌$◌, ◌∵◌, !, qed, by, move, keep, drop, split, split3, join, fsplit, fsplit3, fjoin, learn, use0, use1, rewrite, feq_i, unit_lit, of_opd, returns, enter, alloc_all, pass_all, free_all, look_at, sets, tables, yes, RattleType, owns, types_at, plain, nothing, param, bounded, Stays, stay_dropped, walk_of, Goes-dropped, fact, fact_i, RefOf, shr_vals, shr_Tells, unhide, hidden_shr, lent_out, Tuple, later, await, group, block_ptr, Ptr}
use Rattle.atomic_table.proofs.Walks.{proved, leaves}
use base.Fml.{fhide}
use Rattle.std.specs.contracts.marker.PhantomData as marker
use Rattle.atomic_table.specs.Seated.{TableId}
use Rattle.atomic_table.specs.contracts.shared.Shared as table
use Rattle.atomic_table.proofs.Fields.{HandData}
use Rattle.rights_books.specs.Shown.{shown_shares, Tells}
use Rattle.rights_books.specs.contracts.shown.RestingSeat as shown
use Rattle.rights_books.proofs.Fields.{Pin}
use Rattle.rights_books.proofs.Looking.{agreed}
use Rattle.rights_books.specs.contracts.compare.agree.{ended, clauses}
use Rattle.rights_books.specs.contracts.compare.agree.Key.{name as #self}
use Rattle.rights_books.proofs.compare.agree.Statement.{statement}
use Rattle.rights_books.proofs.compare.agree.Code as code

pub agree_spec : {M : Type 1} → statement M
agree_spec 𝓤 𝓛 𝓜 𝓡 wired T U Q P Mv _ _ _ _ _ g d g' d' _ _ =
    let H = 𝓛.H in let 𝓣 = tables 𝓤 H 𝓜 𝓡 𝓡.env in let R : RattleType = param 0 T in let W : RattleType = param 1 U in let X : RattleType = param 2 Q in let Y : RattleType = param 3 P in let En = ended T U Q P Mv g d g' d' in
    let inst = bounded (a_type ∷ a_type ∷ a_type ∷ a_type ∷ a_type ∷ []) (T, (U, (Q, (P, (Mv, tt))))) (dcons d (dcons d' dnil)) in let fn = inst_fn inst code.function in
    let Row : RattleType = table.the_row R W X Y g in let Sw : RattleType = shown.the_row W in let D : RattleType = HandData R W X Y g in
    let of_table = RefOf (0 ∷ []) tt (plain (λ _. Row)) (λ _. tt) in let of_one = RefOf (1 ∷ []) tt (plain (λ _. Sw)) (λ _. tt) in let of_other = RefOf (2 ∷ []) tt (plain (λ _. Sw)) (λ _. tt) in
    let hs : Stays En.signature.params En.kept = (stay_dropped of_table yes, (stay_dropped of_one yes, (stay_dropped of_other yes, tt))) in let c = clauses T U Q P Mv g d g' d' 𝓛 𝓜.mem 𝓡.returns in
    proved 𝓛 En hs c 𝓜 𝓡 (Goes-dropped 𝓛 8 of_table yes (λ κs x f. refl), (Goes-dropped 𝓛 8 of_one yes (λ κs x f. refl), (Goes-dropped 𝓛 8 of_other yes (λ κs x f. refl), tt))) (#self inst) fn (code.unfolded 𝓤 H 𝓜 𝓡 wired (T, (U, (Q, (P, (Mv, tt))))) d d')
    (λ κs. (shr_vals, (shr_vals, (shr_vals, tt)))) (λ κs. (shr_Tells (named 0) κs.0 Row, (shr_Tells (named 1) κs.1.0 Sw, (shr_Tells (named 2) κs.1.1.0 Sw, tt)))) (λ κs qs bounds a gh are.
    let b₀ : ℕ = a.0.ref_ptr.0 in let o₀ : ℕ = a.0.ref_ptr.1 in let t : Row.Denot = a.0.now in let b₁ : ℕ = a.1.0.ref_ptr.0 in let o₁ : ℕ = a.1.0.ref_ptr.1 in let h : Sw.Denot = a.1.0.now in let b₂ : ℕ = a.1.1.0.ref_ptr.0 in let o₂ : ℕ = a.1.1.0.ref_ptr.1 in let k : Sw.Denot = a.1.1.0.now in
    let w : Ptr = t.words in let p : Ptr = t.slots in let z : TableId = t.table_id in let cv = W.coded in let φ : Type 0 = g'.told h.views k.views in
    let y : (walk_of 𝓛 En hs c).Ghost = ((κs, qs, bounds, a, (vptr b₀ o₀ ∷ [], (vptr b₁ o₁ ∷ [], (vptr b₂ o₂ ∷ [], tt)))), gh) in let Post : Val → SProp 𝓤 = (walk_of 𝓛 En hs c).post y in
    let others : Fml = fsep (flft κs.1.1.1.0 qs.1.1.1.0) (fsep (flft κs.1.1.1.1.0 qs.1.1.1.1.0) (fsep (flft κs.1.1.1.1.1.0 qs.1.1.1.1.1.0) (fsep (flft κs.1.1.1.1.1.1.0 qs.1.1.1.1.1.1.0) (fsep (flft κs.1.1.1.1.1.1.1.0 qs.1.1.1.1.1.1.1.0) ftrue)))) in
    qed 𝓛 (((‵ (flft κs.0 qs.0) ⊛ ‵ (flft κs.1.0 qs.1.0) ⊛ ‵ (flft κs.1.1.0 qs.1.1.0) ⊛ ‵ others) ⊛ ‵ (owns (types_at En.signature.params κs) a y.0.4)) ∷ raw (fact 𝓤 _) ∷ raw (fact 𝓤 _) ∷ raw (fact 𝓤 _) ∷ raw (fact 𝓤 _) ∷ raw (fact 𝓤 _)
    ∷ given ((h.table_id ≡ z) × (k.table_id ≡ z) × Tells (g.holds t.key) h.id h.views k.id k.views φ) (‵ ftrue) ∷ []) ∵
    keep ! (6 ∷ 0 ∷ []) $ learn ! (λ asked. drop ! $ split ! $ split3 ! $ move ! (2 ∷ []) $ split ! $ move ! (4 ∷ []) $
    fsplit3 ! $ move ! (2 ∷ []) $ fsplit ! $ fsplit ! $ move ! (3 ∷ []) $ fsplit ! $ move ! (5 ∷ []) $ fsplit ! $ keep ! (3 ∷ 1 ∷ 5 ∷ 9 ∷ 10 ∷ 7 ∷ 8 ∷ []) $
    enter ! 𝓣.C 𝓣.Λ fn (vptr b₀ o₀ ∷ vptr b₁ o₁ ∷ vptr b₂ o₂ ∷ []) Post $ alloc_all ! (λ l. pass_all ! refl ((tt, tt), ((tt, tt), ((tt, tt), tt))) $
    use1 𝓛 (‵ (hidden_shr D κs.0 (w, (p, (tt, tt))) b₀ o₀) ⊛ ‵ (fhide (table.the_lent R W X Y g t (block_ptr b₀ o₀) κs.0))) (lent_out 𝓛 (table.struct R W X Y g) (table.the_codes T.Denot U.Denot Q.Denot P.Denot R.coded W.coded X.coded Y.coded (marker.the_row (Tuple (Y ∷ W ∷ X ∷ []))).coded) (table.the_heap R W X Y g) (table.the_lent R W X Y g) κs.0 t b₀ o₀) $
    split ! $ drop ! $ unhide ! $ move ! (1 ∷ []) $
    use1 𝓛 (‵ (hidden_shr (Pin W) κs.1.0 (tt, tt) b₁ o₁) ⊛ ‵ (fhide (shown_shares cv.code h.table_id h.id h.views κs.1.0))) (lent_out 𝓛 (shown.struct W) (shown.the_codes U.Denot W.coded (marker.the_row W).coded) (shown.the_heap W) (shown.the_lent W) κs.1.0 h b₁ o₁) $
    split ! $ drop ! $ unhide ! $ move ! (2 ∷ []) $
    use1 𝓛 (‵ (hidden_shr (Pin W) κs.1.1.0 (tt, tt) b₂ o₂) ⊛ ‵ (fhide (shown_shares cv.code k.table_id k.id k.views κs.1.1.0))) (lent_out 𝓛 (shown.struct W) (shown.the_codes U.Denot W.coded (marker.the_row W).coded) (shown.the_heap W) (shown.the_lent W) κs.1.1.0 k b₂ o₂) $
    split ! $ drop ! $ unhide ! $ move ! (2 ∷ 1 ∷ 0 ∷ []) $
    rewrite ! 1 (λ (x : TableId). ‵ (shown_shares cv.code x h.id h.views κs.1.0)) asked.0 refl $ rewrite ! 2 (λ (x : TableId). ‵ (shown_shares cv.code x k.id k.views κs.1.1.0)) asked.1 refl $ group ! 6 $
    use1 𝓛 (later (given φ (‵ (flft κs.0 qs.0) ⊛ (‵ (flft κs.1.0 qs.1.0) ⊛ ‵ (flft κs.1.1.0 qs.1.1.0))))) (agreed 𝓛 R cv (g.holds t.key) w p z h.id k.id h.views k.views φ asked.2 κs.0 κs.1.0 κs.1.1.0 qs.0 qs.1.0 qs.1.1.0) $ await ! tt $ learn ! (λ so. split ! $ move ! (1 ∷ []) $ split ! $
    -- [the second token, the third, the first, the others]
    move ! (1 ∷ 3 ∷ []) $ join ! $ move ! (1 ∷ 0 ∷ []) $ join ! $ move ! (1 ∷ 0 ∷ []) $ join ! $
    sets ! (of_opd ! (unit_lit !)) refl (tt, tt) $ use0 𝓛 (raw (fact 𝓤 φ)) (fact_i 𝓤 φ (emp 𝓤) so) $ feq_i ! (List Val) (vunit ∷ []) (vunit ∷ []) refl $ nothing ! $ nothing ! $ fjoin ! $ nothing ! $ fjoin ! $ nothing ! $ fjoin ! $
    returns ! (look_at ! 0 refl) $ free_all ! refl $ keep ! (3 ∷ 0 ∷ 1 ∷ 2 ∷ []) $ by ! (leaves 𝓛 En hs c y vunit tt (tt, (tt, (tt, tt))) (tt, (tt, (tt, tt))))))))
