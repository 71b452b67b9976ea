mod BodyLemmas
mod CountLemmas
mod SizeLemmas
