mod Chunked
mod Each
mod Freeing
