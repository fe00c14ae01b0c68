mod CountLemmas
mod QuoteLemmas
