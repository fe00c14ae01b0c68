mod AdviceLemmas
